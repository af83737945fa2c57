-- progress::window
use Rattle.progress.proofs.Windows.{steps_refused, basis_collapsed, window_done}
use Rattle.progress.proofs.window.Goals as goal

pub returns-in-Err : goal.returns-in-Err
returns-in-Err c = rw c.refused.ensures (steps_refused c.requires.0 c.in-Err.ensures)

pub returns-in-Err-modified_gram_schmidt : goal.returns-in-Err-modified_gram_schmidt
returns-in-Err-modified_gram_schmidt c =
    let k = c.advance_steps.auto in
    rw (c.refused-in-Err-modified_gram_schmidt.ensures, c.add_steps.ensures) (basis_collapsed c.requires.0 c.in-Ok.ensures c.requires.1 k.tangents k.state c.told-norms _ _ c.in-Err-modified_gram_schmidt.ensures)

pub returns : goal.returns
returns c =
    let k = c.advance_steps.auto in
    rw (c.count_faint.ensures, c.add_steps.ensures) (window_done c.requires.0 c.in-Ok.ensures c.requires.1 k.tangents k.state c.told-norms _ _ c.in_default.ensures)
