-- system::vector_field
use borrow.Author.Rules.{rules}
use Rattle.system.specs.System.{field}
use Rattle.system.proofs.Front.{field_front}
use Rattle.system.proofs.Cases.{field_matched}
use Rattle.system.proofs.vector_field.Goals as goal

pub returns-in-Linear : goal.returns-in-Linear
unfolding field
returns-in-Linear c = (search rules, λ m k. field_matched c.in-Linear.is m _ _ k _ (c.wide_product.ensures.1 m))

pub returns-in-Lorenz96 : goal.returns-in-Lorenz96
unfolding field
returns-in-Lorenz96 c = (search rules, λ m k. field_matched c.in-Lorenz96.is m _ _ k _ c.vector_field.ensures.1)

pub returns-in_default : goal.returns-in_default
returns-in_default c = (search rules, λ m k. field_front c.args.system m c.args.x.now _ (c.fixed_field-entries.ensures m))
