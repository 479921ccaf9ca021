-- What the contracts see of an owner and of a hand.
use Rattle.std.specs.Prelude.{◌≡◌, ℕ, true, Some, None}
use Rattle.atomic_table.specs.Seated.{TableId}
use Rattle.ev_ring.specs.Steps.{with_owner}
use Rattle.ev_ring.specs.RingSlots.{opening_view}
use Rattle.ev_ring.specs.Moves.{counting, new_hand}
use Rattle.ev_ring.specs.declared.view.View.{View}
use Rattle.ev_ring.specs.declared.posts.Post.{Post}
use Rattle.ev_ring.specs.declared.hands.Hand.{Hand}
use Rattle.ev_ring.specs.declared.owners.Owner.{Owner}

module _ {J : Type 0} where
  abbrev pub Holds : View J → ℕ → Type 0
  Holds v ticket = v.counts.hand.held ≡ Some ticket

  abbrev pub HoldsNothing : View J → Type 0
  HoldsNothing v = v.counts.hand.held ≡ None

  -- an owner whose last look found each published ticket given back
  abbrev pub IsQuiet : View J → Type 0
  IsQuiet v = v.counts.owner.is_quiet ≡ true

module _ {J D : Type 0} where
  abbrev pub post_view : Post J D → View J
  post_view post = post.seat.me.0

  -- the same seat of the same ring
  abbrev pub IsSamePost : Post J D → Post J D → Type 0
  IsSamePost old new = (new.seat.table_id ≡ old.seat.table_id) × (new.seat.id ≡ old.seat.id)

  abbrev pub hand_view : Hand J D → View J
  hand_view hand = post_view hand.post

  abbrev pub owner_view : Owner J D → View J
  owner_view owner = post_view owner.post

  -- which ring it is of
  abbrev pub hand_ring : Hand J D → TableId
  hand_ring hand = hand.post.seat.table_id

  abbrev pub owner_ring : Owner J D → TableId
  owner_ring owner = owner.post.seat.table_id

  abbrev pub IsSameHand : Hand J D → Hand J D → Type 0
  IsSameHand old new = IsSamePost old.post new.post

  abbrev pub IsSameOwner : Owner J D → Owner J D → Type 0
  IsSameOwner old new = IsSamePost old.post new.post

  -- the hand is of the owner's ring
  abbrev pub IsOf : Owner J D → Hand J D → Type 0
  IsOf owner hand = hand_ring hand ≡ owner_ring owner

  -- a hand of this ring that has done nothing yet
  abbrev pub IsFreshIn : TableId → Hand J D → Type 0
  IsFreshIn ring hand = (hand_ring hand ≡ ring) × (hand_view hand ≡ new_hand)

  abbrev pub IsFresh : Owner J D → Hand J D → Type 0
  IsFresh owner hand = IsFreshIn (owner_ring owner) hand

  -- the owner of a ring that was just made, with so many hands
  abbrev pub OpensWith : ℕ → Owner J D → Type 0
  OpensWith hands owner = let opened : View J = opening_view in owner_view owner ≡ counting opened (with_owner opened.counts record opened.counts.owner { hands_out = hands })

  -- a hand that holds no ticket
  abbrev pub IsFreeHand : Hand J D → Type 0
  IsFreeHand hand = HoldsNothing (hand_view hand)
