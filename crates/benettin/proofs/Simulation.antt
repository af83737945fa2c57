-- Two runs under way that stay related, or of which one was refused in a way that takes it out of the comparison: proved once for a step, and carried to any number of windows.
use Prim.Native.Nat.{ℕ, zero, suc}
use mathlib.Core.Logic.{◌⊎◌, inl, inr}
use mathlib.Core.List.{List, [], ◌∷◌}
use Rattle.benettin.specs.Run.{Dynamics, RunState, RunRefusal, Status, ok, refused, ◌then◌, step, steps, reorthonormalise, check_duration, count_faint, window, warm_up, begin, warmed_up, course, Row}
use Rattle.benettin.specs.Run.{Course, accumulate, row, with_row, measured, measured_from}

-- A simulation relation between two runs: of their states under way, of their refusals, and of their rows. A refusal that is excluded takes the first or the second run out of the comparison.
pub record Relation : Type 1 where
  pub States : RunState → RunState → Type 0
  pub FirstExcluded : RunRefusal → Type 0
  pub SecondExcluded : RunRefusal → Type 0
  pub Refusals : RunRefusal → RunRefusal → Type 0
  pub Rows : List Row → List Row → Type 0

abbrev pub RefusedIn : (RunRefusal → Type 0) → Status → Type 0
RefusedIn E (ok c) = ⊥
RefusedIn E (refused r) = E r

abbrev pub Related : Relation → Status → Status → Type 0
Related X (ok c) (ok e) = X.States c e
Related X (ok c) (refused s) = ⊥
Related X (refused r) (ok e) = ⊥
Related X (refused r) (refused s) = X.Refusals r s

abbrev pub Excluded : Relation → Status → Status → Type 0
Excluded X x y = RefusedIn X.FirstExcluded x ⊎ RefusedIn X.SecondExcluded y

abbrev pub Similar : Relation → Status → Status → Type 0
Similar X x y = Excluded X x y ⊎ Related X x y

abbrev pub SimilarCourses : Relation → Course → Course → Type 0
SimilarCourses X t u = Excluded X t.end u.end ⊎ (X.Rows t.rows u.rows × Related X t.end u.end)

-- The relation is an invariant: what is to be shown of one step, one orthonormalisation and the sums.
pub record Invariant (X : Relation) (M N : Dynamics) : Type 0 where
  pub on_step : (c e : RunState) → X.States c e → Similar X (step M c) (step N e)
  pub on_reorthonormalise : (c e : RunState) → X.States c e → Similar X (reorthonormalise M c) (reorthonormalise N e)
  pub on_duration : (c e : RunState) → X.States c e → Similar X (check_duration M c) (check_duration N e)
  pub on_faint : (c e : RunState) → X.States c e → X.States (count_faint M c) (count_faint N e)
  pub on_accumulate : (c e : RunState) → X.States c e → X.States (accumulate c) (accumulate e)
  pub on_none : X.Rows [] []
  pub on_row : (c e : RunState) (rs ss : List Row) → X.States c e → X.Rows rs ss → X.Rows (row M c ∷ rs) (row N e ∷ ss)

refused_then : (E : RunRefusal → Type 0) (x : Status) (f : RunState → Status) → RefusedIn E x → RefusedIn E (x then f)
unfolding ◌then◌
refused_then E (ok c) f p = absurd p
refused_then E (refused r) f p = p

pub similar_then : (X : Relation) (x y : Status) (f g : RunState → Status) → Similar X x y → ((c e : RunState) → X.States c e → Similar X (f c) (g e)) → Similar X (x then f) (y then g)
unfolding ◌then◌
similar_then X x y f g (inl (inl p)) h = inl (inl (refused_then X.FirstExcluded x f p))
similar_then X x y f g (inl (inr p)) h = inl (inr (refused_then X.SecondExcluded y g p))
similar_then X (ok c) (ok e) f g (inr q) h = h c e q
similar_then X (ok c) (refused s) f g (inr q) h = absurd q
similar_then X (refused r) (ok e) f g (inr q) h = absurd q
similar_then X (refused r) (refused s) f g (inr q) h = inr q

refused_with_row : (E : RunRefusal → Type 0) (M : Dynamics) (x : Status) (f : RunState → Course) → RefusedIn E x → RefusedIn E (with_row M x f).end
unfolding with_row
refused_with_row E M (ok c) f p = absurd p
refused_with_row E M (refused r) f p = p

refused_measured_from : (E : RunRefusal → Type 0) (M : Dynamics) (s n : ℕ) (x : Status) → RefusedIn E x → RefusedIn E (measured_from M s n x).end
unfolding measured_from
refused_measured_from E M s n (ok c) p = absurd p
refused_measured_from E M s n (refused r) p = p

module _ (X : Relation) (M N : Dynamics) (L : Invariant X M N) where
  pub similar_steps : (n : ℕ) (c e : RunState) → X.States c e → Similar X (steps M n c) (steps N n e)
  unfolding steps
  similar_steps zero c e r = inr r
  similar_steps (suc n) c e r = similar_then X (step M c) (step N e) (steps M n) (steps N n) (L.on_step c e r) (similar_steps n)

  pub similar_window : (n : ℕ) (c e : RunState) → X.States c e → Similar X (window M n c) (window N n e)
  unfolding window
  similar_window n c e r =
      similar_then X (steps M n c then reorthonormalise M) (steps N n e then reorthonormalise N) (λ b. ok (count_faint M b)) (λ b. ok (count_faint N b))
      (similar_then X (steps M n c) (steps N n e) (reorthonormalise M) (reorthonormalise N) (similar_steps n c e r) L.on_reorthonormalise)
      (λ b d s. inr (L.on_faint b d s))

  pub similar_warm_up : (s n : ℕ) (c e : RunState) → X.States c e → Similar X (warm_up M s n c) (warm_up N s n e)
  unfolding warm_up
  similar_warm_up s zero c e r = inr r
  similar_warm_up s (suc n) c e r = similar_then X (window M s c) (window N s e) (warm_up M s n) (warm_up N s n) (similar_window s c e r) (similar_warm_up s n)

  similar_with_row : (x y : Status) (f g : RunState → Course) → Similar X x y → ((c e : RunState) → X.States c e → SimilarCourses X (f c) (g e)) → SimilarCourses X (with_row M x f) (with_row N y g)
  unfolding with_row
  similar_with_row x y f g (inl (inl p)) h = inl (inl (refused_with_row X.FirstExcluded M x f p))
  similar_with_row x y f g (inl (inr p)) h = inl (inr (refused_with_row X.SecondExcluded N y g p))
  similar_with_row (ok c) (ok e) f g (inr q) h = go (h (accumulate c) (accumulate e) k)
    where
      k : X.States (accumulate c) (accumulate e)
      k = L.on_accumulate c e q

      go : SimilarCourses X (f (accumulate c)) (g (accumulate e)) → SimilarCourses X (with_row M (ok c) f) (with_row N (ok e) g)
      go (inl p) = inl p
      go (inr s) = inr (L.on_row (accumulate c) (accumulate e) (f (accumulate c)).rows (g (accumulate e)).rows k s.0, s.1)
  similar_with_row (ok c) (refused s) f g (inr q) h = absurd q
  similar_with_row (refused r) (ok e) f g (inr q) h = absurd q
  similar_with_row (refused r) (refused s) f g (inr q) h = inr (L.on_none, q)

  pub similar_measured : (s n : ℕ) (c e : RunState) → X.States c e → SimilarCourses X (measured M s n c) (measured N s n e)
  unfolding measured
  similar_measured s zero c e r = inr (L.on_none, r)
  similar_measured s (suc n) c e r = similar_with_row (window M s c) (window N s e) (measured M s n) (measured N s n) (similar_window s c e r) (similar_measured s n)

  similar_begin : (c e : RunState) → X.States c e → Similar X (begin M c) (begin N e)
  unfolding begin
  similar_begin c e r = similar_then X (reorthonormalise M c) (reorthonormalise N e) (check_duration M) (check_duration N) (L.on_reorthonormalise c e r) L.on_duration

  pub similar_warmed_up : (s n : ℕ) (c e : RunState) → X.States c e → Similar X (warmed_up M s n c) (warmed_up N s n e)
  unfolding warmed_up
  similar_warmed_up s n c e r = similar_then X (begin M c) (begin N e) (warm_up M s n) (warm_up N s n) (similar_begin c e r) (similar_warm_up s n)

  similar_measured_from : (s n : ℕ) (x y : Status) → Similar X x y → SimilarCourses X (measured_from M s n x) (measured_from N s n y)
  unfolding measured_from
  similar_measured_from s n x y (inl (inl p)) = inl (inl (refused_measured_from X.FirstExcluded M s n x p))
  similar_measured_from s n x y (inl (inr p)) = inl (inr (refused_measured_from X.SecondExcluded N s n y p))
  similar_measured_from s n (ok c) (ok e) (inr q) = similar_measured s n c e q
  similar_measured_from s n (ok c) (refused b) (inr q) = absurd q
  similar_measured_from s n (refused a) (ok e) (inr q) = absurd q
  similar_measured_from s n (refused a) (refused b) (inr q) = inr (L.on_none, q)

  pub similar_course : (u w s n : ℕ) (c e : RunState) → X.States c e → SimilarCourses X (course M u w s n c) (course N u w s n e)
  unfolding course
  similar_course u w s n c e r = similar_measured_from s n (warmed_up M u w c) (warmed_up N u w e) (similar_warmed_up u w c e r)
