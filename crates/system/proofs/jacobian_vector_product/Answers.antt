-- system::jacobian_vector_product
use borrow.Author.Rules.{rules}
use Rattle.system.specs.System.{tangent}
use Rattle.system.proofs.Front.{tangent_front}
use Rattle.system.proofs.Cases.{tangent_matched}
use Rattle.system.proofs.jacobian_vector_product.Goals as goal

pub returns-in-Linear : goal.returns-in-Linear
unfolding tangent
returns-in-Linear c = (search rules, λ m k. tangent_matched c.in-Linear.is m _ _ k c.args.x.now _ (c.wide_product.ensures.1 m))

pub returns-in-Lorenz96 : goal.returns-in-Lorenz96
unfolding tangent
returns-in-Lorenz96 c = (search rules, λ m k. tangent_matched c.in-Lorenz96.is m _ _ k c.args.x.now _ c.jacobian_vector_product.ensures.1)

pub returns-in_default : goal.returns-in_default
returns-in_default c = (search rules, λ m k. tangent_front c.args.system m c.args.x.now c.args.t.now _ (c.fixed_tangent-entries.ensures m))
