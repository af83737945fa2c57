-- sqrt::scaled_root
use mathlib.Core.Path.{ap, ◌∙◌}
use Prim.Native.Nat.{ℕ, ◌+◌, ◌*◌, ◌%◌, ◌^◌}
use native.Mathlib.Omega.{arith}
use Rattle.floats.proofs.Pattern.{no_nan_under}
use Rattle.sqrt.proofs.Whole.{RootOf}
use Rattle.sqrt.proofs.Answer.{root_of_partial, scaled_law}
use Rattle.sqrt.proofs.scaled_root.Goals as goal
use Rattle.sqrt.proofs.scaled_root.Goals.{After-struct_known-1}

-- the root that the two calls find
found : (c : After-struct_known-1) → RootOf c.longer_root-s.result.root (c.args.a * (1 + c.args.p % 2) * 2 ^ 54)
found c =
    let a = c.args.a in
    let p = c.args.p in
    let w = c.whole_root-w in
    let t = c.longer_root-s in
    root_of_partial t.result.root t.result.rest (a * (1 + p % 2) * 2 ^ 54) (t.ensures.0 ∙ ap (λ (n : ℕ). n * 2 ^ 54) w.ensures.0) t.ensures.1

pub float_from_bits-result : goal.float_from_bits-result
float_from_bits-result c = no_nan_under _ (omega (arith, c.longer_root-s.ensures.2))

pub returns : goal.returns
returns c = scaled_law c.args.a c.args.p c.longer_root-s.result.root c.requires.0 c.requires.2 c.requires.3 c.longer_root-s.ensures.2 (found c)
