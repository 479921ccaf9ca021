-- What some lines say.
use Rattle.std.specs.Prelude.{◌≡◌, pos, negsuc, true, false, refl, [], ◌∷◌, ◌++◌, codes, replicate}
use Rattle.ev_model.specs.declared.command.Command.TheVariants.{Edit, Damage, HideArea, ClearAreas, Preload, Step, Sum}
use Rattle.ev_model.specs.declared.command.Edit.TheVariants as edit
use Rattle.ev_model.specs.declared.object.Op.TheVariants as op
use Rattle.ev_model.specs.declared.content.Kind.TheVariants as kinds
use Rattle.ev_model.specs.declared.refusal.BadLine.TheVariants as bad
use Rattle.ev_lang.specs.declared.line.Line.TheVariants as says
use Rattle.ev_lang.specs.Classes.{natural, negative, number, name_arg, number_arg, op_arg, switch_arg}
use Rattle.ev_lang.specs.Args.{no_words, one_number, pair, quad, two_numbers, four_numbers, one_name, two_names, name_and_number, name_and_two, name_and_four, name_and_op, name_and_switch, name_and_text}
use Rattle.ev_lang.specs.Verbs.{object_verb, order_verb, content_verb, frame_verb, verb_of, of_alone, of_name, of_names, of_two, of_four}
use Rattle.ev_lang.specs.Value.{text}
use Rattle.ev_lang.specs.Lines.{command_line, line_of}

spaces : line_of (codes "   ") ≡ says.Empty
unfolding line_of command_line verb_of object_verb order_verb content_verb frame_verb of_alone of_name of_names of_two of_four no_words one_number pair quad two_numbers four_numbers one_name two_names name_and_number name_and_two name_and_four name_and_op name_and_switch name_and_text name_arg number_arg op_arg switch_arg number negative natural
spaces = refl

comment : line_of (codes "  # rect o") ≡ says.Empty
unfolding line_of command_line verb_of object_verb order_verb content_verb frame_verb of_alone of_name of_names of_two of_four no_words one_number pair quad two_numbers four_numbers one_name two_names name_and_number name_and_two name_and_four name_and_op name_and_switch name_and_text name_arg number_arg op_arg switch_arg number negative natural
comment = refl

size : line_of (codes "size 2 1") ≡ says.Command (Edit (edit.Size (pos 2) (pos 1)))
unfolding line_of command_line verb_of object_verb order_verb content_verb frame_verb of_alone of_name of_names of_two of_four no_words one_number pair quad two_numbers four_numbers one_name two_names name_and_number name_and_two name_and_four name_and_op name_and_switch name_and_text name_arg number_arg op_arg switch_arg number negative natural
size = refl

made : line_of (codes "image o") ≡ says.Command (Edit (edit.Make (codes "o") kinds.Image))
unfolding line_of command_line verb_of object_verb order_verb content_verb frame_verb of_alone of_name of_names of_two of_four no_words one_number pair quad two_numbers four_numbers one_name two_names name_and_number name_and_two name_and_four name_and_op name_and_switch name_and_text name_arg number_arg op_arg switch_arg number negative natural
made = refl

moved : line_of (codes " move  o 0 -12 ") ≡ says.Command (Edit (edit.Move (codes "o") (pos 0) (negsuc 11)))
unfolding line_of command_line verb_of object_verb order_verb content_verb frame_verb of_alone of_name of_names of_two of_four no_words one_number pair quad two_numbers four_numbers one_name two_names name_and_number name_and_two name_and_four name_and_op name_and_switch name_and_text name_arg number_arg op_arg switch_arg number negative natural
moved = refl

lowered : line_of (codes "lower o.1") ≡ says.Command (Edit (edit.Raise (codes "o.1") false))
unfolding line_of command_line verb_of object_verb order_verb content_verb frame_verb of_alone of_name of_names of_two of_four no_words one_number pair quad two_numbers four_numbers one_name two_names name_and_number name_and_two name_and_four name_and_op name_and_switch name_and_text name_arg number_arg op_arg switch_arg number negative natural
lowered = refl

above : line_of (codes "above o p") ≡ says.Command (Edit (edit.Place (codes "o") (codes "p") true))
unfolding line_of command_line verb_of object_verb order_verb content_verb frame_verb of_alone of_name of_names of_two of_four no_words one_number pair quad two_numbers four_numbers one_name two_names name_and_number name_and_two name_and_four name_and_op name_and_switch name_and_text name_arg number_arg op_arg switch_arg number negative natural
above = refl

below : line_of (codes "below o p") ≡ says.Command (Edit (edit.Place (codes "o") (codes "p") false))
unfolding line_of command_line verb_of object_verb order_verb content_verb frame_verb of_alone of_name of_names of_two of_four no_words one_number pair quad two_numbers four_numbers one_name two_names name_and_number name_and_two name_and_four name_and_op name_and_switch name_and_text name_arg number_arg op_arg switch_arg number negative natural
below = refl

copied : line_of (codes "op o copy") ≡ says.Command (Edit (edit.SetOp (codes "o") op.Copy))
unfolding line_of command_line verb_of object_verb order_verb content_verb frame_verb of_alone of_name of_names of_two of_four no_words one_number pair quad two_numbers four_numbers one_name two_names name_and_number name_and_two name_and_four name_and_op name_and_switch name_and_text name_arg number_arg op_arg switch_arg number negative natural
copied = refl

layered : line_of (codes "layer o -1") ≡ says.Command (Edit (edit.Layer (codes "o") (negsuc 0)))
unfolding line_of command_line verb_of object_verb order_verb content_verb frame_verb of_alone of_name of_names of_two of_four no_words one_number pair quad two_numbers four_numbers one_name two_names name_and_number name_and_two name_and_four name_and_op name_and_switch name_and_text name_arg number_arg op_arg switch_arg number negative natural
layered = refl

centered : line_of (codes "center o off") ≡ says.Command (Edit (edit.Center (codes "o") false))
unfolding line_of command_line verb_of object_verb order_verb content_verb frame_verb of_alone of_name of_names of_two of_four no_words one_number pair quad two_numbers four_numbers one_name two_names name_and_number name_and_two name_and_four name_and_op name_and_switch name_and_text name_arg number_arg op_arg switch_arg number negative natural
centered = refl

bordered : line_of (codes "border o 1 2 3 4") ≡ says.Command (Edit (edit.Border (codes "o") (pos 1) (pos 2) (pos 3) (pos 4)))
unfolding line_of command_line verb_of object_verb order_verb content_verb frame_verb of_alone of_name of_names of_two of_four no_words one_number pair quad two_numbers four_numbers one_name two_names name_and_number name_and_two name_and_four name_and_op name_and_switch name_and_text name_arg number_arg op_arg switch_arg number negative natural
bordered = refl

said : line_of (codes "say o  a b ") ≡ says.Command (Edit (edit.Say (codes "o") (text (codes " a b "))))
unfolding line_of command_line verb_of object_verb order_verb content_verb frame_verb of_alone of_name of_names of_two of_four no_words one_number pair quad two_numbers four_numbers one_name two_names name_and_number name_and_two name_and_four name_and_op name_and_switch name_and_text name_arg number_arg op_arg switch_arg number negative natural
said = refl

said_nothing : line_of (codes "say o") ≡ says.Command (Edit (edit.Say (codes "o") (text [])))
unfolding line_of command_line verb_of object_verb order_verb content_verb frame_verb of_alone of_name of_names of_two of_four no_words one_number pair quad two_numbers four_numbers one_name two_names name_and_number name_and_two name_and_four name_and_op name_and_switch name_and_text name_arg number_arg op_arg switch_arg number negative natural
said_nothing = refl

damaged : line_of (codes "damage 1 2 3 4") ≡ says.Command (Damage (pos 1) (pos 2) (pos 3) (pos 4))
unfolding line_of command_line verb_of object_verb order_verb content_verb frame_verb of_alone of_name of_names of_two of_four no_words one_number pair quad two_numbers four_numbers one_name two_names name_and_number name_and_two name_and_four name_and_op name_and_switch name_and_text name_arg number_arg op_arg switch_arg number negative natural
damaged = refl

hidden : line_of (codes "hide-area 0 0 4 8") ≡ says.Command (HideArea (pos 0) (pos 0) (pos 4) (pos 8))
unfolding line_of command_line verb_of object_verb order_verb content_verb frame_verb of_alone of_name of_names of_two of_four no_words one_number pair quad two_numbers four_numbers one_name two_names name_and_number name_and_two name_and_four name_and_op name_and_switch name_and_text name_arg number_arg op_arg switch_arg number negative natural
hidden = refl

cleared : line_of (codes "clear-areas") ≡ says.Command ClearAreas
unfolding line_of command_line verb_of object_verb order_verb content_verb frame_verb of_alone of_name of_names of_two of_four no_words one_number pair quad two_numbers four_numbers one_name two_names name_and_number name_and_two name_and_four name_and_op name_and_switch name_and_text name_arg number_arg op_arg switch_arg number negative natural
cleared = refl

preloaded : line_of (codes "preload o") ≡ says.Command (Preload (codes "o"))
unfolding line_of command_line verb_of object_verb order_verb content_verb frame_verb of_alone of_name of_names of_two of_four no_words one_number pair quad two_numbers four_numbers one_name two_names name_and_number name_and_two name_and_four name_and_op name_and_switch name_and_text name_arg number_arg op_arg switch_arg number negative natural
preloaded = refl

stepped : line_of (codes "step 10") ≡ says.Command (Step (pos 10))
unfolding line_of command_line verb_of object_verb order_verb content_verb frame_verb of_alone of_name of_names of_two of_four no_words one_number pair quad two_numbers four_numbers one_name two_names name_and_number name_and_two name_and_four name_and_op name_and_switch name_and_text name_arg number_arg op_arg switch_arg number negative natural
stepped = refl

summed : line_of (codes "sum") ≡ says.Command Sum
unfolding line_of command_line verb_of object_verb order_verb content_verb frame_verb of_alone of_name of_names of_two of_four no_words one_number pair quad two_numbers four_numbers one_name two_names name_and_number name_and_two name_and_four name_and_op name_and_switch name_and_text name_arg number_arg op_arg switch_arg number negative natural
summed = refl

no_command : line_of (codes "Sum") ≡ says.Bad bad.Word
unfolding line_of command_line verb_of object_verb order_verb content_verb frame_verb of_alone of_name of_names of_two of_four no_words one_number pair quad two_numbers four_numbers one_name two_names name_and_number name_and_two name_and_four name_and_op name_and_switch name_and_text name_arg number_arg op_arg switch_arg number negative natural
no_command = refl

too_few : line_of (codes "move -o 01") ≡ says.Bad bad.Count
unfolding line_of command_line verb_of object_verb order_verb content_verb frame_verb of_alone of_name of_names of_two of_four no_words one_number pair quad two_numbers four_numbers one_name two_names name_and_number name_and_two name_and_four name_and_op name_and_switch name_and_text name_arg number_arg op_arg switch_arg number negative natural
too_few = refl

too_many : line_of (codes "sum 1") ≡ says.Bad bad.Count
unfolding line_of command_line verb_of object_verb order_verb content_verb frame_verb of_alone of_name of_names of_two of_four no_words one_number pair quad two_numbers four_numbers one_name two_names name_and_number name_and_two name_and_four name_and_op name_and_switch name_and_text name_arg number_arg op_arg switch_arg number negative natural
too_many = refl

no_name : line_of (codes "move -o 01 2") ≡ says.Bad bad.Name
unfolding line_of command_line verb_of object_verb order_verb content_verb frame_verb of_alone of_name of_names of_two of_four no_words one_number pair quad two_numbers four_numbers one_name two_names name_and_number name_and_two name_and_four name_and_op name_and_switch name_and_text name_arg number_arg op_arg switch_arg number negative natural
no_name = refl

no_number : line_of (codes "move o 01 -0") ≡ says.Bad bad.Number
unfolding line_of command_line verb_of object_verb order_verb content_verb frame_verb of_alone of_name of_names of_two of_four no_words one_number pair quad two_numbers four_numbers one_name two_names name_and_number name_and_two name_and_four name_and_op name_and_switch name_and_text name_arg number_arg op_arg switch_arg number negative natural
no_number = refl

no_choice : line_of (codes "op o Copy") ≡ says.Bad bad.Word
unfolding line_of command_line verb_of object_verb order_verb content_verb frame_verb of_alone of_name of_names of_two of_four no_words one_number pair quad two_numbers four_numbers one_name two_names name_and_number name_and_two name_and_four name_and_op name_and_switch name_and_text name_arg number_arg op_arg switch_arg number negative natural
no_choice = refl

bad_byte : line_of (codes "#" ++ 200 ∷ []) ≡ says.Bad bad.Byte
unfolding line_of command_line verb_of object_verb order_verb content_verb frame_verb of_alone of_name of_names of_two of_four no_words one_number pair quad two_numbers four_numbers one_name two_names name_and_number name_and_two name_and_four name_and_op name_and_switch name_and_text name_arg number_arg op_arg switch_arg number negative natural
bad_byte = refl

too_long : line_of (replicate 1025 200) ≡ says.Bad bad.Long
unfolding line_of command_line verb_of object_verb order_verb content_verb frame_verb of_alone of_name of_names of_two of_four no_words one_number pair quad two_numbers four_numbers one_name two_names name_and_number name_and_two name_and_four name_and_op name_and_switch name_and_text name_arg number_arg op_arg switch_arg number negative natural
too_long = refl
