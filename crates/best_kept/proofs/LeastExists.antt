-- A MODEL WITH A POINT HAS A LEAST OBJECTIVE: each variable has finitely many whole values within its bounds, and what is a point, and its objective, depend on
-- the model's variables alone. So all of them are tried, one after another, and the best point so far is kept.
use Prim.Native.Nat.{ℕ, zero, suc, ◌+◌, ◌<◌, min}
use Rattle.std.proofs.Common.{arith, sym, ◌∙◌, length-take}
use Rattle.std.proofs.Math.Decide.{map_dec, ℕ_discrete, dec_le, dec_lt}
use Rattle.std.specs.Prelude.{◌≡◌, refl, List, [], ◌∷◌, eqb, ℤ, pos, ◌+ℤ◌, take, drop, Float}
use Rattle.std.proofs.Math.Path.{subst}
use Rattle.std.proofs.Math.ListN.{length, get_or, length-drop}
use Rattle.std.proofs.Math.Seq.{get_or-take, get_or-drop}
use Rattle.floats.specs.Num.{choose}
use Rattle.floats.specs.Zed.{P, N, ext, add_parts, ◌⊑◌, ◌⊏◌}
use Rattle.floats.specs.Points.{int}
use Rattle.tolerances.specs.Tol.{Term, at, zip_terms}
use Rattle.definition.specs.Model.{Model, from, nnz, written, op_of, rhs_of}
use Rattle.definition.specs.Accepted.{Shaped}
use Rattle.definition.specs.Choices.{chosen, left, equal, unequal}
use Rattle.definition.specs.Tests.{last_or}
use Rattle.points_kept.specs.PointSet.{PointSet}
use Rattle.points_kept.specs.Statements.{dot, Meets, Point}
use Rattle.best_kept.specs.Objective.{cost_below, cost, Least}
use Rattle.points_kept.proofs.Integers.{eq_parts}
use Rattle.points_kept.specs.Terms.{All}
use Rattle.best_kept.specs.Moved.{moved}
use Rattle.best_kept.specs.LeastExists.{Best, Same, Searchable}

-- ---- decisions
pub zed_dec_le : (a b : ℤ) → Dec (a ⊑ b)
zed_dec_le a b = dec_le (P a + N b) (P b + N a)

pub dec_both : {A B : Type 0} → Dec A → Dec B → Dec (A × B)
dec_both (yes a) (yes b) = yes (a, b)
dec_both (yes a) (no g) = no (λ p. g p.1)
dec_both (no f) d = no (λ p. f p.0)

pub dec_below : {Q : ℕ → Type 0} → ((v : ℕ) → Dec (Q v)) → (n : ℕ) → Dec ((v : ℕ) → v < n → Q v)
dec_below d zero = yes (λ v h. absurd (omega arith))
dec_below {Q} d (suc n) =
    map_dec (λ p. last_or {Q = Q} n p.1 p.0) (λ g. ((λ v h. g v (omega arith)), g n (omega arith))) (dec_both (dec_below d n) (d n))

pub dec_meets : (op : ℕ) (s b : ℤ) → Dec (Meets op s b)
dec_meets zero s b = map_dec (ext s b) (λ e. eq_parts e) (ℕ_discrete (P s + N b) (P b + N s))
dec_meets (suc zero) s b = zed_dec_le s b
dec_meets (suc (suc n)) s b = zed_dec_le b s

pub dec_point : (M : Model) (x : ℕ → ℤ) → Dec (Point M x)
dec_point M x =
    map_dec (λ p. record { bounds = p.0; rows = p.1 }) (λ p. (p.bounds, p.rows))
    (dec_both (dec_below (λ v. dec_both (zed_dec_le (int (at M.lower v)) (x v)) (zed_dec_le (x v) (int (at M.upper v)))) (length M.lower))
    (dec_below (λ r. dec_meets (op_of M r) (dot x (written M r)) (int (rhs_of M r))) (length M.rhs)))

pub dot_same : (n : ℕ) (x y : ℕ → ℤ) (ts : List Term) → Same n x y → All (λ t. t.var < n) ts → dot x ts ≡ dot y ts
unfolding dot
dot_same n x y [] s a = refl
dot_same n x y (t ∷ ts) s a = rw (s t.var a.0, dot_same n x y ts s a.1)

pub cost_same : (M : Model) (n : ℕ) (x y : ℕ → ℤ) → Same n x y → cost_below M n x ≡ cost_below M n y
unfolding cost_below
cost_same M zero x y s = refl
cost_same M (suc n) x y s = rw (s n (omega arith), cost_same M n x y (λ v h. s v (omega arith)))

-- with one value more
pub one_more : (k : ℕ) (a : ℤ) (x y : ℕ → ℤ) → Same k x y → x k ≡ a → Same (suc k) x (moved k a y)
one_more k a x y s e =
    last_or {Q = λ v. x v ≡ choose (eqb v k) a (y v)} k (e ∙ sym (chosen a (y k) (equal k))) (λ v h. s v h ∙ sym (left a (y v) (unequal v k (λ q. omega arith))))

module _ (n : ℕ) (lo hi : ℕ → ℤ) (Points : PointSet) (value : (ℕ → ℤ) → ℤ) (f : Searchable n lo hi Points value) where
  -- every variable is set: the one y is tried against p
  pub try : (y p : ℕ → ℤ) → Points p → (Best n lo hi Points value f) p (λ x. Same n x y)
  try y p q =
      elim (f.decide y) [
        | no r ↦ record { point = p; member = q; better = omega arith; least = λ x s t. absurd (r (f.points x y s t)) }
        | yes r ↦ elim (zed_dec_le (value y) (value p)) [
          | yes h ↦ record { point = y; member = r; better = h; least = λ x s t. omega (arith, eq_parts (f.values x y s)) }
          | no h ↦ record { point = p; member = q; better = omega arith; least = λ x s t. omega (arith, eq_parts (f.values x y s)) }
        ]
      ]

  -- the variables below k are set, and k takes the first m values from its lower bound on; `next` is the search once k is set too
  pub try_values : (k : ℕ) (y : ℕ → ℤ) → k < n → ((z p : ℕ → ℤ) → Points p → (Best n lo hi Points value f) p (λ x. Same (suc k) x z)) → (m : ℕ) (p : ℕ → ℤ) → Points p
      → (Best n lo hi Points value f) p (λ x. Same k x y × (x k ⊏ lo k +ℤ pos m))
  try_values k y h next zero p q =
      record { point = p; member = q; better = omega arith; least = λ x s t. absurd (omega (arith, (f.within x t k h).0, s.1, add_parts (lo k) (pos 0))) }
  try_values k y h next (suc m) p q =
      let a = lo k +ℤ pos m in
      let b = try_values k y h next m p q in
      let c = next (moved k a y) b.point b.member in
      record {
        point = c.point;
        member = c.member;
        better = omega (arith, b.better, c.better);
        least = λ x s t. elim (dec_lt (P (x k) + N a) (P a + N (x k))) [
          | yes l ↦ omega (arith, b.least x (s.0, l) t, c.better)
          | no l ↦ c.least x (one_more k a x y s.0 (ext _ _ (omega (arith, s.1, add_parts (lo k) (pos m), add_parts (lo k) (pos (suc m)))))) t
        ];
      }

  -- the variables below k are set, and d are left
  pub search_from : (d k : ℕ) → k + d ≡ n → (y p : ℕ → ℤ) → Points p → (Best n lo hi Points value f) p (λ x. Same k x y)
  search_from zero k e y p q = let all : n ≡ k = omega arith in subst (λ (j : ℕ). (Best n lo hi Points value f) p (λ x. Same j x y)) all (try y p q)
  search_from (suc d) k e y p q =
      let m = suc (P (hi k) + N (lo k)) in
      let h : k < n = omega arith in
      let b = try_values k y h (search_from d (suc k) (omega arith)) m p q in
      record {
        point = b.point;
        member = b.member;
        better = b.better;
        least = λ x s t. b.least x (s, omega (arith, (f.within x t k h).0, (f.within x t k h).1, add_parts (lo k) (pos m))) t;
      }

-- ---- a model's points are such a set
pub zip_below : (n : ℕ) (vs : List ℕ) (cs : List Float) → ((i : ℕ) → i < length vs → get_or vs i 0 < n) → All (λ t. t.var < n) (zip_terms vs cs)
unfolding zip_terms
zip_below n [] cs f = tt
zip_below n (v ∷ vs) [] f = tt
zip_below n (v ∷ vs) (c ∷ cs) f = (f 0 (omega arith), zip_below n vs cs (λ i h. f (suc i) (omega arith)))

module _ (M : Model) (shape : Shaped M) where
  pub written_below : (r : ℕ) → All (λ t. t.var < length M.lower) (written M r)
  unfolding written
  written_below r = zip_below (length M.lower) _ _ (λ i h. one i (subst (λ (k : ℕ). i < k) (length-take (nnz M r) (drop (from M r) M.index)) h))
    where
      one : (i : ℕ) → i < min (nnz M r) (length (drop (from M r) M.index)) → get_or (take (nnz M r) (drop (from M r) M.index)) i 0 < length M.lower
      one i h =
          let e = get_or-take (nnz M r) (drop (from M r) M.index) i 0 (omega arith) ∙ get_or-drop (from M r) M.index i 0 in
          subst (λ (v : ℕ). v < length M.lower) (sym e) (shape.index (from M r + i) (omega (arith, length-drop (from M r) M.index)))

  pub searchable : Searchable (length M.lower) (λ v. int (at M.lower v)) (λ v. int (at M.upper v)) (Point M) (cost M)
  unfolding cost
  searchable =
      record {
        decide = dec_point M;
        within = λ x p. p.bounds;
        points = λ x y s p. record {
          bounds = λ v h. subst (λ (z : ℤ). (int (at M.lower v) ⊑ z) × (z ⊑ int (at M.upper v))) (s v h) (p.bounds v h);
          rows = λ r h. subst (λ (z : ℤ). Meets (op_of M r) z (int (rhs_of M r))) (dot_same (length M.lower) x y (written M r) s (written_below r)) (p.rows r h);
        };
        values = cost_same M (length M.lower);
      }

-- A MODEL WITH A POINT has a least objective
pub least_exists : (M : Model) → Shaped M → (x : ℕ → ℤ) → Point M x → (z : ℤ) × Least M (Point M) z
least_exists M shape x p =
    let b = search_from (length M.lower) _ _ (Point M) (cost M) (searchable M shape) (length M.lower) 0 (omega arith) x x p in
    (cost M b.point, record { point = b.point; member = b.member; reached = refl; least = λ y q. b.least y (λ v h. absurd (omega arith)) q })
