-- What a table keeps of each object.
use Rattle.std.specs.Prelude.{◌≡◌, ◌==◌, ℕ, Option, Some, None, map, nat_eq, if◌then◌else◌}
use Rattle.std.specs.Option.{option_map, option_eq}
use Rattle.std.specs.HashMap.{get}
use Rattle.std.specs.FinMap.{from_entries}
use Rattle.ev_links.specs.declared.table.Node.{Node}
use Rattle.ev_links.specs.declared.table.Table.{Table}
use Rattle.ev_links.specs.Ties.{Tie, Ties}

-- the ties of a node
abbrev pub tie_of : Node → Tie
tie_of node = record { kind = node.kind; clipper = node.clipper; parent = node.parent }

-- the node of an object, if it is there
abbrev pub node_in : Table → ℕ → Option Node
node_in table id = get nat_eq table.nodes id

-- the ties of an object, if it is there
abbrev pub tie_in : Table → ℕ → Option Tie
tie_in table id = option_map tie_of (node_in table id)

-- how many objects an object clips, as the table counts them
abbrev pub clips_in : Table → ℕ → Option ℕ
clips_in table id = option_map (λ node. node.clips) (node_in table id)

-- the ties that the table keeps
unfoldable pub ties_of : Table → Ties
ties_of table = from_entries (map (λ entry. (entry.0, tie_of entry.1)) table.nodes.entries)

-- a tie with another clipper, or none
abbrev pub with_clipper : Option ℕ → Tie → Tie
with_clipper clipper tie = record tie { clipper = clipper }

-- a tie with another parent, or none
abbrev pub with_parent : Option ℕ → Tie → Tie
with_parent parent tie = record tie { parent = parent }

-- the tie of one object changes, if it is there, and all others stay
abbrev pub ChangesTie : (Tie → Tie) → ℕ → Table → Table → Type 0
ChangesTie change id old new = (other : ℕ) → tie_in new other ≡ (if other == id then option_map change (tie_in old other) else tie_in old other)

-- one object counts so many, if it is there, and all others stay
abbrev pub SetsClips : ℕ → ℕ → Table → Table → Type 0
SetsClips clips id old new = (other : ℕ) → clips_in new other ≡ (if other == id then option_map (λ _. clips) (clips_in old other) else clips_in old other)

-- the ties of all objects stay
abbrev pub SameTies : Table → Table → Type 0
SameTies old new = (other : ℕ) → tie_in new other ≡ tie_in old other

-- what each object counts stays
abbrev pub SameClips : Table → Table → Type 0
SameClips old new = (other : ℕ) → clips_in new other ≡ clips_in old other

-- a node without this clipper
abbrev pub released_node : ℕ → Node → Node
released_node clipper node = if option_eq nat_eq node.clipper (Some clipper) then record node { clipper = None } else node

-- an entry whose node is without this clipper
abbrev pub released_entry : ℕ → ℕ × Node → ℕ × Node
released_entry clipper entry = (entry.0, released_node clipper entry.1)
