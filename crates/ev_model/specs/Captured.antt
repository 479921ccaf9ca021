-- Objects of scenes that can be captured.
use Rattle.std.specs.Prelude.{IsSome, IfSome, List}
use Rattle.ev_model.specs.Up.{with_id}
use Rattle.ev_model.specs.declared.object.Object.{Object}

-- what an object goes by stands among the objects
pub record IsLinked (objects : List Object) (o : Object) : Type 0 where
  pub clipper : IfSome o.clipper (λ id. IsSome (with_id objects id))
  pub parent : IfSome o.parent (λ id. IsSome (with_id objects id))
