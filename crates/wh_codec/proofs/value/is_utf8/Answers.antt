use Rattle.std.proofs.Common.{sym, true, false, Bool, ◌≡◌, refl, List, ℕ}
use Rattle.std.specs.Str.{is_utf8, IsUtf8}
use Rattle.std.proofs.lemmas.Str.{is_utf8-from_IsUtf8, IsUtf8-from_is_utf8}
use Rattle.wh_codec.proofs.value.is_utf8.Goals as goal

pub returns-in-Ok : goal.returns-in-Ok
returns-in-Ok c = sym (is_utf8-from_IsUtf8 c.args.bytes.now (c.in-Ok.ensures.cases.1))

refused : (bytes : List ℕ) (b : Bool) → (b ≡ true → IsUtf8 bytes) → (IsUtf8 bytes → ⊥) → false ≡ b
refused bytes true to not = absurd (not (to refl))
refused bytes false to not = refl

pub returns-in_default : goal.returns-in_default
returns-in_default c = refused c.args.bytes.now (is_utf8 c.args.bytes.now) (IsUtf8-from_is_utf8 c.args.bytes.now) (λ h. c.in_default.ensures.cases.0 h)
