-- Lists with what stands for each id, or nothing.
pub use Rattle.ev_slots.proofs.Places.{at_place, at_set, at_end, at_map, live_set, live_gone, live_map, live_end, found, none_found, of_id_suc, of_id_put, of_id_end, of_id_map, same_slots, id_low, id_high, read_at, live_put, live_taken, put_same, past_end, map_choice, some_choice}
