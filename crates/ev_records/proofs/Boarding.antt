-- Two places of the tests.
use Rattle.std.proofs.Common.{◌≡◌, ⊎_elim, inr, List, map, length, sym, ap, ◌∙◌, arith}
use Rattle.std.proofs.lemmas.Grind.{common_steps}
use Rattle.ev_records.specs.Showing.{Showing, settled}
use Rattle.ev_records.specs.Standing.{Standings}
use Rattle.ev_records.specs.TwoPlaces.{IsBoard}
use Rattle.ev_records.proofs.Settling.{settled_at}

pub board_settled : (all : List Showing) (st new : Standings) → IsBoard all st → length new.stands ≡ length st.stands → IsBoard (map settled all) new
board_settled all st new board n =
    let m : length (map settled all) ≡ length all = grind (arith, common_steps) in
    record {
      places = m ∙ board.places;
      ranks = n ∙ board.ranks;
      ids = λ i l s. board.ids i l (⊎_elim (λ e. inr (sym (ap (λ s. s.was) (settled_at all i)) ∙ e)) (λ e. inr (sym (ap (λ s. s.now) (settled_at all i)) ∙ e)) s);
    }
