-- Disks that are not written in several calls.
use Rattle.std.proofs.Common.{◌∙◌}
use Rattle.wh_io.proofs.Moments.{leaves_map, leaves_then}
use Rattle.wh_runs.specs.Disks.{Form}
use Rattle.wh_runs.specs.Opens.{IsUnwritten}

module _ {D : Type 0} (form : Form D) where
  pub unwritten_then : (a b c : D) → IsUnwritten form a b → IsUnwritten form b c → IsUnwritten form a c
  unwritten_then a b c first second = record {
    same = second.same ∙ first.same;
    within = λ x left. first.within x (second.within x left);
    since = leaves_then form.moment form.images_since a b c (form.images a) first.since
        (leaves_map form.moment form.images_since b c (form.images b) (form.images a) (λ x left. first.within x left) second.since);
  }
