-- The rule of the ring over its three words and the views of all seats.
-- Word 0 is the limit, with its top bit set where the ring is closed. Word 1 counts the tickets that were claimed, and word 2 those that were given back.
use Rattle.std.specs.Prelude.{◌≡◌, ℕ, ◌+◌, ◌%◌, ◌<◌, ◌≤◌, Bool, true, false, cond, List, [], Some, None}
use mathlib.Core.Option.{some}
use lib.ListN.{get_elem?}
use Rattle.ev_seats.specs.Weights.{total, below, only, is_one}
use Rattle.ev_ring.specs.declared.view.Role.{Role}
use Rattle.ev_ring.specs.declared.view.Role.TheVariants.{Owner, Hand, Spent}
use Rattle.ev_ring.specs.declared.view.HandView.{HandView}
use Rattle.ev_ring.specs.declared.view.OwnerView.{OwnerView}
use Rattle.ev_ring.specs.declared.view.Counts.{Counts}

-- a limit without its top bit
abbrev pub bare : ℕ → ℕ
bare limit = limit % 9223372036854775808

-- the word of the limit n
abbrev pub limit_word : Bool → ℕ → ℕ
limit_word is_closed n = cond is_closed (n + 9223372036854775808) n

abbrev pub is_owner : Role → ℕ
is_owner Owner = 1
is_owner Hand = 0
is_owner Spent = 0

abbrev pub is_hand : Role → ℕ
is_hand Owner = 0
is_hand Hand = 1
is_hand Spent = 0

-- how many tickets these seats hold
abbrev pub held_by : List Counts → ℕ
held_by views = total (λ v. is_one v.hand.held) views

-- how many of these seats are hands
abbrev pub hands_in : List Counts → ℕ
hands_in views = total (λ v. is_hand v.role) views

-- what a seat read lies behind the words
pub record Reads (limit claim : ℕ) (h : HandView) : Type 0 where
  pub limit_behind : bare h.limit_read ≤ bare limit
  pub claim_behind : h.claim_read ≤ claim
  pub found_behind : h.found ≤ claim

-- what the owner knows of the words, and that it counts the hands
pub record Leads (limit done hands : ℕ) (o : OwnerView) : Type 0 where
  pub limit_is : limit ≡ limit_word o.is_closed o.limit
  pub room : o.limit ≤ 4611686018427387904
  pub quiet : o.is_quiet ≡ true → done ≡ o.limit
  pub seen : o.done_seen ≤ done
  pub own : o.base + o.own_given ≤ done
  pub hands_are : hands ≡ o.hands_out

-- the rule over the words' values and the views
pub record Tally (limit claim done : ℕ) (views : List Counts) : Type 0 where
  pub within : claim ≤ bare limit
  -- the tickets that the seats got are together the numbers below claim, each once
  pub once : (f : ℕ → ℕ) → total (λ v. total f v.hand.got) views ≡ below f claim
  pub settled : done + held_by views ≡ claim
  -- a ticket that a seat holds is among those that it got
  pub stands : (k : ℕ) (v : Counts) (ticket : ℕ) → get_elem? views k ≡ some v → v.hand.held ≡ Some ticket → 0 < total (only ticket) v.hand.got
  pub one_owner : total (λ v. is_owner v.role) views ≡ 1
  pub reads : (k : ℕ) (v : Counts) → get_elem? views k ≡ some v → Reads limit claim v.hand
  pub leads : (k : ℕ) (v : Counts) → get_elem? views k ≡ some v → v.role ≡ Owner → Leads limit done (hands_in views) v.owner
  -- a seat that was joined has no ticket any more
  pub spent : (k : ℕ) (v : Counts) → get_elem? views k ≡ some v → v.role ≡ Spent → (v.hand.got ≡ []) × (v.hand.held ≡ None)

abbrev pub blank_hand : HandView
blank_hand = record { limit_read = 0; limit_looks = 0; claim_read = 0; claim_looks = 0; found = 0; got = []; held = None }

abbrev pub blank_owner : OwnerView
blank_owner = record { limit = 0; is_closed = false; is_quiet = true; hands_out = 0; done_looks = 0; done_seen = 0; base = 0; own_given = 0 }

-- the owner of a ring that was just made
abbrev pub opening_view : Counts
opening_view = record { role = Owner; hand = blank_hand; owner = blank_owner }

-- what a join leaves of a hand
abbrev pub spent_view : Counts
spent_view = record { role = Spent; hand = blank_hand; owner = blank_owner }
