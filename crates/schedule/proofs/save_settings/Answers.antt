-- schedule::save_settings
use Rattle.std.proofs.Common.{◌*◌, [], ◌∷◌, ap, ◌∙◌, arith, length}
use Rattle.std.proofs.lemmas.List.Edits.{sets}
use Rattle.system_numbers.specs.declared.Numbered.{Numbered}
use Rattle.floats.proofs.Parts.{put_is}
use Rattle.schedule.proofs.save_settings.Goals as goal

pub returns : goal.returns
returns c =
    let a = c.args in
    let g = a.config in
    let n = c.from-n.ensures in
    let f = c.copy_from_slice.ensures.after in
    let u = c.copy_from_slice-2.ensures.after in (
      put_is a.settings.now (4 * a.slot) 4 _ (omega (arith, c.requires)) (ap length f)
          ∙ ap (sets a.settings.now (4 * a.slot)) (f ∙ ap (λ (m : Numbered). g.step_size ∷ m.p0 ∷ m.p1 ∷ m.p2 ∷ []) n),
      put_is a.queue.now (8 * a.slot) 8 _ (omega (arith, c.requires)) (ap length u)
          ∙ ap (sets a.queue.now (8 * a.slot)) (u ∙ ap (λ (m : Numbered). m.kind ∷ m.dimension ∷ g.top_k ∷ g.steps_per_window ∷ g.windows ∷ g.transient_windows ∷ g.steps_per_transient_window ∷ 0 ∷ []) n),
    )
