-- Whether two looks are equal.
use Rattle.std.specs.Prelude.{Bool, true, false, ◌&&◌, ◌==◌, bytes_eq}
use Rattle.std.specs.Ordering.{int_eq}
use Rattle.std.specs.Option.{option_eq}
use Rattle.ev_argb.specs.Argb.{Argb}
use Rattle.ev_geom.specs.Area.{Area as Area_}
use Rattle.ev_model.specs.Look.{Look, load_number}
use Rattle.ev_model.specs.declared.object.Op.{Op}
use Rattle.ev_model.specs.declared.object.Op.TheVariants.{Blend, Copy}
use Rattle.ev_model.specs.declared.content.Fill.{Fill}
use Rattle.ev_model.specs.declared.content.Fill.TheVariants.{Filled, Area}
use Rattle.ev_model.specs.declared.content.Border.{Border}
use Rattle.ev_model.specs.declared.content.ImagePart.{ImagePart}
use Rattle.ev_model.specs.declared.content.TextPart.{TextPart}
use Rattle.ev_model.specs.declared.content.Content.{Content}
use Rattle.ev_model.specs.declared.content.Content.TheVariants as content

-- whether two areas have one place and one size
abbrev pub same_area : Area_ → Area_ → Bool
same_area a b = int_eq a.x b.x && int_eq a.y b.y && int_eq a.w b.w && int_eq a.h b.h

-- whether two colours have the same channels
abbrev pub same_colour : Argb → Argb → Bool
same_colour p q = p.a == q.a && p.r == q.r && p.g == q.g && p.b == q.b

-- whether two operations are one
abbrev pub same_op : Op → Op → Bool
same_op Blend Blend = true
same_op Copy Copy = true
same_op _ _ = false

-- whether an image lies in two objects in the same way
abbrev pub same_fill : Fill → Fill → Bool
same_fill Filled Filled = true
same_fill (Area x y w h) (Area x' y' w' h') = int_eq x x' && int_eq y y' && w == w' && h == h'
same_fill _ _ = false

-- whether two borders keep the same columns and rows
abbrev pub same_border : Border → Border → Bool
same_border b c = b.l == c.l && b.r == c.r && b.t == c.t && b.b == c.b

-- whether both are true or both are false
abbrev pub same_bool : Bool → Bool → Bool
same_bool true b = b
same_bool false true = false
same_bool false false = true

-- whether two image parts are equal: loaded pixels count by the number of their load, and a key does not count
abbrev pub same_image : ImagePart → ImagePart → Bool
same_image p q = option_eq ◌==◌ (load_number p.loaded) (load_number q.loaded) && same_fill p.fill q.fill && same_border p.border q.border && same_bool p.center q.center

-- whether two text parts are equal: a loaded font counts by the number of its load, and a key does not count
abbrev pub same_text : TextPart → TextPart → Bool
same_text p q = option_eq ◌==◌ (load_number p.loaded) (load_number q.loaded) && bytes_eq p.text q.text

-- whether two contents are of one kind and equal
abbrev pub same_content : Content → Content → Bool
same_content content.Rect content.Rect = true
same_content content.Smart content.Smart = true
same_content (content.Image p) (content.Image q) = same_image p q
same_content (content.Text p) (content.Text q) = same_text p q
same_content _ _ = false

-- whether two looks are equal: the area, the rectangle, the operation, the colour and the content
abbrev pub same_look : Look → Look → Bool
same_look l m = same_area l.area m.area && same_area l.object.rect m.object.rect && same_op l.object.op m.object.op && same_colour l.color m.color && same_content l.object.content m.object.content
