-- a + b windows are a windows, and then b from where those ended.
use Prim.Native.Nat.{ℕ, zero, suc, ◌+◌}
use native.Mathlib.Nat.{zero-add, suc-add}
use mathlib.Core.Path.{◌≡◌, refl}
use mathlib.Core.List.{List, ◌∷◌, ◌++◌}
use Rattle.benettin.specs.Run.{Dynamics, RunState, Status, ok, refused, window, Row, Course, accumulate, row, with_row, measured, measured_from, warmed_up, course}

-- the rows of what came before, and then those of what comes after it
unfoldable pub joined : List Row → Status → (RunState → Course) → Course
joined rows (ok c) f = record { rows = rows ++ (f c).rows; end = (f c).end }
joined rows (refused r) f = record { rows = rows; end = refused r }

joined_cons : (a : Row) (rows : List Row) (x : Status) (f : RunState → Course) → record { rows = a ∷ (joined rows x f).rows; end = (joined rows x f).end } ≡ joined (a ∷ rows) x f
unfolding joined
joined_cons a rows (ok c) f = refl
joined_cons a rows (refused r) f = refl

module _ (M : Dynamics) (s b : ℕ) where
  with_row_joined : (x : Status) (f g : RunState → Course) → ((c : RunState) → f c ≡ joined (g c).rows (g c).end (measured M s b))
      → with_row M x f ≡ joined (with_row M x g).rows (with_row M x g).end (measured M s b)
  unfolding with_row joined
  with_row_joined (refused r) f g h = refl
  with_row_joined (ok c) f g h = rw (h (accumulate c)) (joined_cons (row M (accumulate c)) (g (accumulate c)).rows (g (accumulate c)).end (measured M s b))

  pub measured_add : (a : ℕ) (c : RunState) → measured M s (a + b) c ≡ joined (measured M s a c).rows (measured M s a c).end (measured M s b)
  unfolding measured joined
  measured_add zero c = rw zero-add
  measured_add (suc a) c = rw suc-add (with_row_joined (window M s c) (measured M s (a + b)) (measured M s a) (measured_add a))

  from_add : (a : ℕ) (x : Status) → measured_from M s (a + b) x ≡ joined (measured_from M s a x).rows (measured_from M s a x).end (measured M s b)
  unfolding measured_from joined
  from_add a (ok c) = measured_add a c
  from_add a (refused r) = refl

  pub course_add : (u w a : ℕ) (c : RunState) → course M u w s (a + b) c ≡ joined (course M u w s a c).rows (course M u w s a c).end (measured M s b)
  unfolding course
  course_add u w a c = from_add a (warmed_up M u w c)
