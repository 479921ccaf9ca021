-- What holds of each scene as it is painted.
use Rattle.std.specs.Prelude.{◌≢◌, IsTrue, All, length}
use Rattle.std.specs.List.{AllPairs}
use Rattle.ev_model.specs.Captured.{IsLinked}
use Rattle.ev_model.specs.Chain.{ends}
use Rattle.ev_model.specs.Order.{ids, IsInOrder}
use Rattle.ev_model.specs.Stage.{Stage}
use Rattle.ev_model.specs.Up.{next}

-- ids differ; the objects stand in the order of painting, in which the layers of siblings never fall; the clipper and the parent of
-- each are among them; and each way up comes to an end
pub record IsSound (s : Stage) : Type 0 where
  pub distinct : AllPairs (λ a b. a ≢ b) (ids s.objects)
  pub order : IsInOrder s.objects
  pub links : All (IsLinked s.objects) s.objects
  pub ways : All (λ o. IsTrue (ends (length s.objects) (next s.objects) (next s.objects o))) s.objects
