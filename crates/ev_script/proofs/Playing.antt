-- A script that is played line by line.
use Rattle.std.proofs.Common.{◌≡◌, ℕ, ◌+◌, List, [], ◌∷◌, ◌++◌, map, reverse, Bool, true, false, Option, Ok, Err, refl, ap, ap₂, subst, sym, ◌∙◌, append_assoc, ◌==◌, ◌<◌, length, length-append, arith}
use Rattle.std.proofs.lemmas.List.{append-nil, map-append, reverse-append}
use Rattle.std.proofs.lemmas.List.Sums.{sum_by-append}
use Rattle.std.proofs.lemmas.Grind.{flat_map-append}
use Rattle.ev_port.specs.Told.{GrowsBy, grows_on, grows_by_none}
use Rattle.ev_port.specs.Causes.{RoseBy, rose_by_none, rose_by_on}
use Rattle.ev_model.specs.Answer.{Answer}
use Rattle.ev_model.specs.Text.{reply_text, text}
use Rattle.ev_model.specs.declared.command.Command.TheVariants as command
use Rattle.ev_model.specs.declared.command.Edit.TheVariants as edit
use Rattle.ev_lang.specs.Value.{by_value}
use Rattle.ev_lang.specs.Words.{onto_first}
use Rattle.ev_lang.specs.Lines.{lines, line_of, first_line, after_line}
use Rattle.ev_lang.specs.declared.line.Line.{Line}
use Rattle.ev_lang.specs.declared.line.Line.TheVariants as line
use Rattle.ev_canvas.specs.Canvas.{Canvas, opened as new_canvas}
use Rattle.ev_canvas.specs.CanvasFrames.{runs}
use Rattle.ev_canvas.specs.Sound.{IsSound}
use Rattle.ev_canvas.specs.declared.canvas.Setup.{Setup}
use Rattle.ev_canvas.specs.Turns.{Setting, State, Turn, opening, starts_of}
use Rattle.ev_canvas.specs.Starts.{Latest, last_number}
use Rattle.ev_canvas.proofs.Accounting.{commanded, opened}
use Rattle.ev_canvas.proofs.Reporting.{reported}
use Rattle.ev_script.specs.Script.{Step, Plays, losses_of, lost_frames, store_failures_of, store_failures}
use Rattle.ev_script.specs.Outside.{Devices, outside}
use Rattle.ev_script.specs.Session.{IsReady, Acts, CarriesOut, setting, state_of}
use Rattle.ev_script.specs.ScreenFrames.{ShowsInOrder}
use Rattle.ev_script.specs.declared.outcome.Outcome.{Outcome}
use Rattle.ev_script.specs.LineReplies.{told}
use Rattle.ev_script.specs.Play.{script_lines, IsSeen, IsPlayedOn, IsStopped}
use Rattle.ev_script.proofs.Orders.{shown_in_order}

-- the lines of a script that isn't empty
lines_split : (b : ℕ) (bs : List ℕ) → lines (b ∷ bs) ≡ first_line (b ∷ bs) ∷ lines (after_line (b ∷ bs))
lines_split b bs = split_at (b == 10) b bs refl
  where
    split_at : (t : Bool) (b : ℕ) (bs : List ℕ) → (b == 10) ≡ t → lines (b ∷ bs) ≡ first_line (b ∷ bs) ∷ lines (after_line (b ∷ bs))
    split_at true b bs is = rw is refl
    split_at false b [] is = rw is refl
    split_at false b (c ∷ bs) is = rw is (ap (onto_first b) (split_at (c == 10) c bs refl))

-- the same, by what the lines say
says_first : (b : ℕ) (bs : List ℕ) (line : Line) (after : List ℕ) → line ≡ line_of (first_line (b ∷ bs)) → after ≡ after_line (b ∷ bs) → script_lines (b ∷ bs) ≡ line ∷ script_lines after
says_first b bs line after is behind =
    ap (map line_of) (lines_split b bs) ∙ ap₂ (λ (l : Line) (rest : List ℕ). l ∷ script_lines rest) (sym is) (sym behind)

-- a line does what its value does
by_value_step : (settled : Setting) (state : State) (n : ℕ) (said : Line) (turn : Turn) → Step settled state n said turn → Step settled state n (by_value said) turn
by_value_step settled state n (line.Command (command.Edit (edit.Say name bytes))) turn step =
    let call = step.call in
    record {
      result = step.result;
      call = record { scene = call.scene; frames = call.frames; loads = call.loads; events = call.events };
      tells = step.tells;
      older = step.older;
    }
by_value_step settled state n (line.Command (command.Edit other)) turn step = step
by_value_step settled state n (line.Command other) turn step = step
by_value_step settled state n other turn step = step

-- one line more
plays_on : (settled : Setting) (old : State) (n m : ℕ) (answered : List Line) (line : Line) (replies : List Answer) (state : State) (turn : Turn) → Plays settled old n answered replies state → n + length answered ≡ m → Step settled state m line turn → Plays settled old n (answered ++ line ∷ []) (replies ++ turn.replies) turn.after
plays_on settled old n m [] line replies state turn plays number step =
    let number_is : m ≡ n = omega (arith, number) in
    (turn, [], subst (λ (s : State). Step settled s n line turn) plays.1 (subst (λ k. Step settled state k line turn) number_is step), (refl, refl), ap (λ rs. rs ++ turn.replies) plays.0 ∙ sym (append-nil turn.replies))
plays_on settled old n m (first ∷ answered) line replies state turn plays number step =
    let rest = plays.1 in
    let number_is : n + 1 + length answered ≡ m = omega (arith, number) in
    (plays.0, rest ++ turn.replies, plays.2, plays_on settled plays.0.after (n + 1) m answered line rest state turn plays.3 number_is step, ap (λ rs. rs ++ turn.replies) plays.4 ∙ append_assoc plays.0.replies rest turn.replies)

-- a line leaves a sound state sound
sound_on : (settled : Setting) (state : State) (n : ℕ) (said : Line) (turn : Turn) → Step settled state n said turn → IsSound settled.setup state → IsSound settled.setup turn.after
sound_on settled state n line.Empty turn is sound = subst (λ t. IsSound settled.setup t.after) (sym is) sound
sound_on settled state n (line.Bad fault) turn is sound = subst (λ t. IsSound settled.setup t.after) (sym is) sound
sound_on settled state n (line.Command said) turn is sound = commanded settled state n said turn is sound

-- How the machine plays these lines, on a canvas that then stands for the state that they leave, with
-- these starts before the newest one, and what the screen and the store show of it.
pub record Reaches (settled : Setting) (before now : Devices) (canvas : Canvas) (answered : List Line) (replies : List Answer) (older : List Latest) : Type 0 where
  pub plays : Plays settled opening 1 answered replies (state_of canvas older)
  pub sound : IsSound settled.setup (state_of canvas older)
  pub seen : IsSeen (state_of canvas older) replies before now
  pub settles : setting canvas.setup now.files ≡ settled

-- before the first line
reaches_none : (setup : Setup) (before : Devices) (canvas : Canvas) → canvas ≡ new_canvas setup → Reaches (setting setup before.files) before before canvas [] [] []
reaches_none setup before canvas is = subst (λ c. Reaches (setting setup before.files) before before c [] [] []) (sym is) (record {
  plays = (refl, refl);
  sound = opened setup;
  seen = record {
    showings = [];
    shows = refl;
    reported = tt;
    screen_grows = grows_by_none before.frames;
    losses = rose_by_none before.faults before.faults (omega arith);
    failures = rose_by_none before.store_faults before.store_faults (omega arith);
  };
  settles = refl;
})

-- the turn of one more line
step_on : (settled : Setting) (before now after : Devices) (old new : Canvas) (n : ℕ) (answered : List Line) (line : Line) (replies : List Answer) (older : List Latest) (outcome : Outcome) (reaches : Reaches settled before now old answered replies older) (acts : Acts line now after old new outcome) → Step settled (state_of old older) n (by_value line) (record { replies = told new n outcome; after = state_of new (acts.turns n older).starts })
step_on settled before now after old new n answered line replies older outcome reaches acts =
    let takes = acts.turns n older in
    let turn : Turn = record { replies = told new n outcome; after = state_of new takes.starts } in
    by_value_step settled (state_of old older) n line turn (subst (λ here. Step here (state_of old older) n line turn) reaches.settles takes.step)

-- after one more line
pub reaches_on : (settled : Setting) (before now after : Devices) (old new : Canvas) (n : ℕ) (answered : List Line) (line : Line) (replies : List Answer) (older : List Latest) (outcome : Outcome) → length answered + 1 ≡ n → (reaches : Reaches settled before now old answered replies older) (acts : Acts line now after old new outcome) → Reaches settled before after new (answered ++ by_value line ∷ []) (replies ++ told new n outcome) (acts.turns n older).starts
reaches_on settled before now after old new n answered line replies older outcome numbered reaches acts =
    let takes = acts.turns n older in
    let turn : Turn = record { replies = told new n outcome; after = state_of new takes.starts } in
    let step = step_on settled before now after old new n answered line replies older outcome reaches acts in
    let sound = sound_on settled (state_of old older) n (by_value line) turn step reaches.sound in
    let seen = reaches.seen in
    let shows = takes.shows_more seen.showings seen.shows in
    record {
      plays = plays_on settled opening 1 n answered (by_value line) replies (state_of old older) turn reaches.plays (omega (arith, numbered)) step;
      sound = sound;
      seen = record {
        showings = takes.showings ++ seen.showings;
        shows = shows;
        reported = reported settled.setup.cell (starts_of turn.after) (takes.showings ++ seen.showings) sound.chain sound.comparable shows;
        screen_grows = subst (λ frames. GrowsBy before.frames after.frames frames) (sym (ap (map (λ s. s.frame)) (reverse-append takes.showings seen.showings) ∙ map-append (λ s. s.frame) (reverse seen.showings) (reverse takes.showings))) (grows_on seen.screen_grows takes.screen_grows);
        losses = subst (λ k. RoseBy k before.faults after.faults) (sym (sum_by-append losses_of replies turn.replies)) (rose_by_on (lost_frames replies) (lost_frames turn.replies) before.faults now.faults after.faults seen.losses takes.losses);
        failures = subst (λ k. RoseBy k before.store_faults after.store_faults) (sym (sum_by-append store_failures_of replies turn.replies)) (rose_by_on (store_failures replies) (store_failures turn.replies) before.store_faults now.store_faults after.store_faults seen.failures takes.failures);
      };
      settles = ap₂ setting acts.setup acts.files ∙ reaches.settles;
    }

-- where a session has come to in a script: it carried out a front of its lines, and all replies are in the log
pub record SoFar (settled : Setting) (script : List ℕ) (log log' : Option (List ℕ)) (before now : Devices) (canvas : Canvas) (number : ℕ) (rest : List ℕ) : Type 0 where
  pub answered : List Line
  pub split : script_lines script ≡ answered ++ script_lines rest
  pub numbered : length answered + 1 ≡ number
  pub replies : List Answer
  pub older : List Latest
  pub reaches : Reaches settled before now canvas answered replies older
  pub log_grows : GrowsBy log log' (text replies)

-- before the first line
pub at_start : (setup : Setup) (script : List ℕ) (log : Option (List ℕ)) (before : Devices) (canvas : Canvas) → canvas ≡ new_canvas setup → SoFar (setting setup before.files) script log log before before canvas 1 script
at_start setup script log before canvas is = record {
  answered = [];
  split = refl;
  numbered = refl;
  replies = [];
  older = [];
  reaches = reaches_none setup before canvas is;
  log_grows = grows_by_none log;
}

-- after one more line
pub one_line : {T E : Type 0} (settled : Setting) (script : List ℕ) (log now_log log' : Option (List ℕ)) (before now after : Devices) (old new : Canvas) (number : ℕ) (rest : List ℕ) (line : Line) (behind : List ℕ) (done : T) → 0 < length rest → by_value line ≡ line_of (first_line rest) → behind ≡ after_line rest → SoFar settled script log now_log before now old number rest → CarriesOut {T = T} {E = E} number line now_log log' now after old new (Ok done) → SoFar settled script log log' before after new (number + 1) behind
one_line settled script log now_log log' before now after old new number [] line behind done some is behind_is so_far carries = absurd (omega arith)
one_line settled script log now_log log' before now after old new number (b ∷ bs) line behind done some is behind_is so_far carries =
    let told_here = told new number carries.outcome in
    record {
      answered = so_far.answered ++ by_value line ∷ [];
      split = so_far.split ∙ ap (λ ls. so_far.answered ++ ls) (says_first b bs (by_value line) behind is behind_is) ∙ sym (append_assoc so_far.answered (by_value line ∷ []) (script_lines behind));
      numbered = ap (λ n. n + 1) (length-append so_far.answered (by_value line ∷ []) ∙ so_far.numbered);
      replies = so_far.replies ++ told_here;
      older = (carries.acts.turns number so_far.older).starts;
      reaches = reaches_on settled before now after old new number so_far.answered line so_far.replies so_far.older carries.outcome so_far.numbered so_far.reaches carries.acts;
      log_grows = subst (λ t. GrowsBy log log' t) (sym (flat_map-append reply_text so_far.replies told_here)) (grows_on so_far.log_grows carries.writes.whole);
    }

-- after the last line
pub at_end : (settled : Setting) (script : List ℕ) (log log' : Option (List ℕ)) (before now : Devices) (canvas : Canvas) (number : ℕ) (rest : List ℕ) → length rest ≡ 0 → SoFar settled script log log' before now canvas number rest → IsPlayedOn canvas settled script (outside log before) (outside log' now)
at_end settled script log log' before now canvas number (b ∷ bs) none so_far = absurd (omega arith)
at_end settled script log log' before now canvas number [] none so_far = record {
  played = record {
    replies = so_far.replies;
    final = state_of canvas so_far.older;
    plays = subst (λ ls. Plays settled opening 1 ls so_far.replies (state_of canvas so_far.older)) (sym (so_far.split ∙ append-nil so_far.answered)) so_far.reaches.plays;
    log_grows = so_far.log_grows;
    seen = so_far.reaches.seen;
  };
  stands = refl;
}

-- where the log failed within the replies to a line
pub stopped : {T E : Type 0} (settled : Setting) (script : List ℕ) (log now_log log' : Option (List ℕ)) (before now after : Devices) (old new : Canvas) (number : ℕ) (rest : List ℕ) (line : Line) (behind : List ℕ) (cause : E) → 0 < length rest → by_value line ≡ line_of (first_line rest) → behind ≡ after_line rest → SoFar settled script log now_log before now old number rest → CarriesOut {T = T} {E = E} number line now_log log' now after old new (Err cause) → IsStopped settled script (outside log before) (outside log' after)
stopped settled script log now_log log' before now after old new number [] line behind cause some is behind_is so_far carries = absurd (omega arith)
stopped settled script log now_log log' before now after old new number (b ∷ bs) line behind cause some is behind_is so_far carries =
    let later = reaches_on settled before now after old new number so_far.answered line so_far.replies so_far.older carries.outcome so_far.numbered so_far.reaches carries.acts in
    let turn : Turn = record { replies = told new number carries.outcome; after = state_of new (carries.acts.turns number so_far.older).starts } in
    let step = step_on settled before now after old new number so_far.answered line so_far.replies so_far.older carries.outcome so_far.reaches carries.acts in
    let part = carries.writes.part in
    record {
      answered = so_far.answered;
      last = by_value line;
      left = script_lines behind;
      split = so_far.split ∙ ap (λ ls. so_far.answered ++ ls) (says_first b bs (by_value line) behind is behind_is);
      replies = so_far.replies;
      state = state_of old so_far.older;
      plays = so_far.reaches.plays;
      turn = turn;
      step = subst (λ k. Step settled (state_of old so_far.older) k (by_value line) turn) (sym so_far.numbered) step;
      written = part.added;
      missing = part.left_out;
      cut = part.split;
      log_grows = grows_on so_far.log_grows part.grows;
      seen = later.seen;
    }

-- the screen shows in order so far
pub in_order : (settled : Setting) (before now : Devices) (canvas : Canvas) (answered : List Line) (replies : List Answer) (older : List Latest) → Reaches settled before now canvas answered replies older → ShowsInOrder before.frames now.frames
in_order settled before now canvas answered replies older reaches = shown_in_order settled.setup.cell before.frames now.frames (starts_of (state_of canvas older)) reaches.seen.showings reaches.sound.chain reaches.seen.shows reaches.seen.screen_grows

-- a new canvas is ready for the first line
pub ready_opened : (setup : Setup) (canvas : Canvas) → canvas ≡ new_canvas setup → IsReady canvas 1
ready_opened setup canvas is = record {
  frames = omega (arith, ap (λ c. last_number c.frames.newest) is);
  loads = omega (arith, ap (λ c. c.loads.begun) is);
  running = ap (λ c. c.loads.running) is;
  events = ap (λ c. c.events) is;
  idle = ap (λ c. runs c.frames.newest) is;
}
