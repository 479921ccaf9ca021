-- The first words of commands, and what each says with what follows it.
use Rattle.std.specs.Prelude.{ℕ, ℤ, true, false, Option, Some, None, List, codes, if◌then◌else◌}
use Rattle.std.specs.Str.{bytes_eq}
use Rattle.ev_model.specs.declared.command.Command.{Command}
use Rattle.ev_model.specs.declared.command.Command.TheVariants.{Edit, Preload, Load, Cancel, Serve, Start, Poll, Wait, Render, Dump, Sum, Stats, ClearAreas}
use Rattle.ev_model.specs.declared.command.Edit.TheVariants as edit
use Rattle.ev_model.specs.declared.content.Kind.TheVariants as kinds
use Rattle.ev_lang.specs.declared.verb.Verb.{Verb}
use Rattle.ev_lang.specs.declared.verb.Verb.TheVariants as verb
use Rattle.ev_lang.specs.declared.verb.Alone.{Alone}
use Rattle.ev_lang.specs.declared.verb.Alone.TheVariants as alone
use Rattle.ev_lang.specs.declared.verb.OneName.{OneName}
use Rattle.ev_lang.specs.declared.verb.OneName.TheVariants as one
use Rattle.ev_lang.specs.declared.verb.TwoNames.{TwoNames}
use Rattle.ev_lang.specs.declared.verb.TwoNames.TheVariants as two
use Rattle.ev_lang.specs.declared.verb.NameAndTwo.{NameAndTwo}
use Rattle.ev_lang.specs.declared.verb.NameAndTwo.TheVariants as point
use Rattle.ev_lang.specs.declared.verb.NameAndFour.{NameAndFour}
use Rattle.ev_lang.specs.declared.verb.NameAndFour.TheVariants as four

-- words that make, place and change one object
unfoldable pub object_verb : List ℕ → Option Verb
object_verb word =
    if bytes_eq word (codes "move") then Some (verb.NameAndTwo point.Move)
    else if bytes_eq word (codes "resize") then Some (verb.NameAndTwo point.Resize)
    else if bytes_eq word (codes "show") then Some (verb.OneName one.Show)
    else if bytes_eq word (codes "hide") then Some (verb.OneName one.Hide)
    else if bytes_eq word (codes "color") then Some (verb.NameAndFour four.Color)
    else if bytes_eq word (codes "op") then Some verb.Op
    else if bytes_eq word (codes "rect") then Some (verb.OneName (one.Make kinds.Rect))
    else if bytes_eq word (codes "image") then Some (verb.OneName (one.Make kinds.Image))
    else if bytes_eq word (codes "text") then Some (verb.OneName (one.Make kinds.Text))
    else if bytes_eq word (codes "smart") then Some (verb.OneName (one.Make kinds.Smart))
    else if bytes_eq word (codes "delete") then Some (verb.OneName one.Delete)
    else None

-- words that say how objects stand to one another
unfoldable pub order_verb : List ℕ → Option Verb
order_verb word =
    if bytes_eq word (codes "layer") then Some verb.Layer
    else if bytes_eq word (codes "raise") then Some (verb.OneName one.Raise)
    else if bytes_eq word (codes "lower") then Some (verb.OneName one.Lower)
    else if bytes_eq word (codes "above") then Some (verb.TwoNames two.Above)
    else if bytes_eq word (codes "below") then Some (verb.TwoNames two.Below)
    else if bytes_eq word (codes "clip") then Some (verb.TwoNames two.Clip)
    else if bytes_eq word (codes "unclip") then Some (verb.OneName one.Unclip)
    else if bytes_eq word (codes "member") then Some (verb.TwoNames two.Member)
    else if bytes_eq word (codes "free") then Some (verb.OneName one.Free)
    else None

-- words that say what images and texts hold, and that load it
unfoldable pub content_verb : List ℕ → Option Verb
content_verb word =
    if bytes_eq word (codes "say") then Some verb.Say
    else if bytes_eq word (codes "file") then Some (verb.TwoNames two.File)
    else if bytes_eq word (codes "font") then Some (verb.TwoNames two.Font)
    else if bytes_eq word (codes "fill") then Some (verb.NameAndFour four.Fill)
    else if bytes_eq word (codes "filled") then Some (verb.OneName one.Filled)
    else if bytes_eq word (codes "border") then Some (verb.NameAndFour four.Border)
    else if bytes_eq word (codes "center") then Some verb.Center
    else if bytes_eq word (codes "preload") then Some (verb.OneName one.Preload)
    else if bytes_eq word (codes "load") then Some (verb.OneName one.Load)
    else if bytes_eq word (codes "cancel") then Some (verb.OneName one.Cancel)
    else if bytes_eq word (codes "serve") then Some (verb.Alone alone.Serve)
    else None

-- words about the canvas and its frames
unfoldable pub frame_verb : List ℕ → Option Verb
frame_verb word =
    if bytes_eq word (codes "render") then Some (verb.Alone alone.Render)
    else if bytes_eq word (codes "start") then Some (verb.Alone alone.Start)
    else if bytes_eq word (codes "step") then Some verb.Step
    else if bytes_eq word (codes "poll") then Some (verb.Alone alone.Poll)
    else if bytes_eq word (codes "wait") then Some (verb.Alone alone.Wait)
    else if bytes_eq word (codes "dump") then Some (verb.Alone alone.Dump)
    else if bytes_eq word (codes "sum") then Some (verb.Alone alone.Sum)
    else if bytes_eq word (codes "stats") then Some (verb.Alone alone.Stats)
    else if bytes_eq word (codes "size") then Some verb.Size
    else if bytes_eq word (codes "damage") then Some verb.Damage
    else if bytes_eq word (codes "hide-area") then Some verb.HideArea
    else if bytes_eq word (codes "clear-areas") then Some (verb.Alone alone.ClearAreas)
    else None

-- this one, or else the other
abbrev pub or_else : Option Verb → Option Verb → Option Verb
or_else (Some known) other = Some known
or_else None other = other

-- the first words of all commands
unfoldable pub verb_of : List ℕ → Option Verb
verb_of word = or_else (object_verb word) (or_else (order_verb word) (or_else (content_verb word) (frame_verb word)))

-- commands without further words
unfoldable pub of_alone : Alone → Command
of_alone alone.Serve = Serve
of_alone alone.Start = Start
of_alone alone.Poll = Poll
of_alone alone.Wait = Wait
of_alone alone.Render = Render
of_alone alone.Dump = Dump
of_alone alone.Sum = Sum
of_alone alone.Stats = Stats
of_alone alone.ClearAreas = ClearAreas

-- commands of one object
unfoldable pub of_name : OneName → List ℕ → Command
of_name (one.Make kind) name = Edit (edit.Make name kind)
of_name one.Delete name = Edit (edit.Delete name)
of_name one.Show name = Edit (edit.Show name true)
of_name one.Hide name = Edit (edit.Show name false)
of_name one.Raise name = Edit (edit.Raise name true)
of_name one.Lower name = Edit (edit.Raise name false)
of_name one.Unclip name = Edit (edit.Unclip name)
of_name one.Free name = Edit (edit.Free name)
of_name one.Filled name = Edit (edit.Filled name)
of_name one.Preload name = Preload name
of_name one.Load name = Load name
of_name one.Cancel name = Cancel name

-- commands of an object and a second name
unfoldable pub of_names : TwoNames → List ℕ → List ℕ → Command
of_names two.Above name other = Edit (edit.Place name other true)
of_names two.Below name other = Edit (edit.Place name other false)
of_names two.Clip name clipper = Edit (edit.Clip name clipper)
of_names two.Member name smart = Edit (edit.Member name smart)
of_names two.File name key = Edit (edit.File name key)
of_names two.Font name key = Edit (edit.Font name key)

-- commands of an object and two numbers
unfoldable pub of_two : NameAndTwo → List ℕ → ℤ → ℤ → Command
of_two point.Move name x y = Edit (edit.Move name x y)
of_two point.Resize name w h = Edit (edit.Resize name w h)

-- commands of an object and four numbers
unfoldable pub of_four : NameAndFour → List ℕ → ℤ → ℤ → ℤ → ℤ → Command
of_four four.Color name r g b a = Edit (edit.Color name r g b a)
of_four four.Fill name x y w h = Edit (edit.Fill name x y w h)
of_four four.Border name l r t b = Edit (edit.Border name l r t b)
