-- Replies, as contracts see them.
use Rattle.std.specs.Prelude.{ℕ, List, Option}
use Rattle.ev_argb.specs.Argb.{Argb}
use Rattle.ev_geom.specs.Area.{Area}
use Rattle.ev_model.specs.declared.reply.Reply.{Reply}
use Rattle.ev_model.specs.declared.reply.Reply.TheVariants as reply
use Rattle.ev_model.specs.declared.refusal.BadLine.{BadLine}
use Rattle.ev_model.specs.declared.refusal.Refusal.{Refusal}
use Rattle.ev_model.specs.declared.refusal.LoadFault.{LoadFault}

-- a reply whose lists are its own
pub data Answer : Type 0 where
  Started : ℕ → ℕ → Answer
  Pending : ℕ → ℕ → ℕ → Answer
  Shown : ℕ → ℕ → ℕ → List Area → Answer
  Lost : ℕ → Answer
  Stepped : ℕ → Answer
  Served : List ℕ → Answer
  Preloaded : List ℕ → Answer
  PreloadFailed : List ℕ → LoadFault → Answer
  Cancelled : List ℕ → Answer
  Idle : Answer
  DumpRow : List (Option Argb) → Answer
  Sum : ℕ → ℕ → ℕ → ℕ → ℕ → Answer
  Stats : ℕ → ℕ → Answer
  Bad : BadLine → ℕ → Answer
  Refused : Refusal → ℕ → Answer

-- what a reply says
abbrev pub answer : Reply → Answer
answer (reply.Started n tiles) = Started n tiles
answer (reply.Pending n done tiles) = Pending n done tiles
answer (reply.Shown n w h updates) = Shown n w h updates.now
answer (reply.Lost n) = Lost n
answer (reply.Stepped drawn) = Stepped drawn
answer (reply.Served name) = Served name
answer (reply.Preloaded name) = Preloaded name
answer (reply.PreloadFailed name fault) = PreloadFailed name fault
answer (reply.Cancelled name) = Cancelled name
answer reply.Idle = Idle
answer (reply.DumpRow pixels) = DumpRow pixels.now
answer (reply.Sum a r g b p) = Sum a r g b p
answer (reply.Stats painted made) = Stats painted made
answer (reply.Bad fault line) = Bad fault line
answer (reply.Refused cause line) = Refused cause line
