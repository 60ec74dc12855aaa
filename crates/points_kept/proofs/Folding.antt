-- `fold_fixed`: what is left of a row after its fixed variables and zero coefficients have left says what the row says, and has no zero coefficient.
use Prim.Native.Nat.{ℕ, zero, suc, ◌+◌, ◌-◌, ◌^◌, ◌≤◌, ◌<◌}
use native.Mathlib.Omega.{arith}
use Rattle.std.specs.Prelude.{◌≡◌, ◌≢◌, Bool, List, [], ◌∷◌, ◌++◌, T, eqb, ℤ, pos, ◌+ℤ◌, ◌-ℤ◌, ◌*ℤ◌, set, take, Float}
use Rattle.std.proofs.Math.Path.{refl, sym, ap, subst}
use Rattle.std.proofs.Common.{◌∙◌, inl, inr, eqb→eq, take-suc, take_all}
use Rattle.std.proofs.Math.IntN.{+ℤ_assoc, +ℤ_idr, +ℤ_idl, zero-*ℤ}
use Rattle.std.proofs.Math.ListN.{length, get_or, length-set}
use Rattle.std.proofs.Math.Seq.{get_or-set_same, get_or-set_other, get_or-take, length-take-le}
use Rattle.std.specs.Float.Ieee.{eq}
use Rattle.floats.specs.Num.{◌⊖◌, 0f}
use Rattle.floats.specs.Zed.{P, N, A, ext, add_parts}
use Rattle.floats.specs.Points.{int, Whole, Is}
use Rattle.tolerances.specs.Tol.{Term}
use Rattle.tolerances.specs.Laws.{laws}
use Rattle.definition.specs.Model.{Model, Row, with_terms}
use Rattle.definition.specs.Work.{Work, no_term}
use Rattle.definition.specs.Folds.{swap_remove}
use Rattle.points_kept.specs.PointSet.{PointSet}
use Rattle.points_kept.specs.Statements.{dot}
use Rattle.points_kept.proofs.Integers.{eq_parts}
use Rattle.definition.specs.Tests.{differ, test}
use Rattle.points_kept.proofs.WholeFloats.{zero_is, diff}
use Rattle.points_kept.specs.Terms.{All, Distinct, TermOk}
use Rattle.points_kept.proofs.Terms.{all_index, index_all}
use Rattle.points_kept.proofs.Invariant.{re_terms}
use Rattle.points_kept.specs.Invariant.{Side, RowOk, GoodW}
use Rattle.points_kept.specs.Folding.{Source, tv}

-- ---- `swap_remove`
module _ (ts : List Term) (i : ℕ) (h : i < length ts) where
  pub sr_length : suc (length (swap_remove ts i)) ≡ length ts
  unfolding swap_remove
  sr_length = let e = length-take-le (length ts - 1) (set ts i (get_or ts (length ts - 1) no_term)) (rw length-set (omega arith)) in omega arith

  pub sr_same : (j : ℕ) → j < length (swap_remove ts i) → j ≢ i → get_or (swap_remove ts i) j no_term ≡ get_or ts j no_term
  sr_same j k n = go (omega (arith, sr_length))
    where
      go : j < length ts - 1 → get_or (swap_remove ts i) j no_term ≡ get_or ts j no_term
      go l = unfold swap_remove in (get_or-take (length ts - 1) (set ts i (get_or ts (length ts - 1) no_term)) j no_term l ∙ get_or-set_other ts i j (get_or ts (length ts - 1) no_term) no_term n)

  pub sr_here : i < length (swap_remove ts i) → get_or (swap_remove ts i) i no_term ≡ get_or ts (length ts - 1) no_term
  unfolding swap_remove
  sr_here k =
      let l : i < length ts - 1 = omega (arith, sr_length) in
      get_or-take (length ts - 1) (set ts i (get_or ts (length ts - 1) no_term)) i no_term l ∙ get_or-set_same ts i (get_or ts (length ts - 1) no_term) no_term h

  pub source : (j : ℕ) → j < length (swap_remove ts i) → (Source ts i h) j
  source j l =
      elim (test (eqb j i)) [
        | inl t ↦ (let e = eqb→eq j i t in
            record {
              k = length ts - 1;
              in_range = omega arith;
              other = λ q. no (eqb→eq j i t) q;
              here = λ _. refl;
              there = λ n. absurd (n e);
              is = ap (λ (m : ℕ). get_or (swap_remove ts i) m no_term) e ∙ sr_here (subst (λ (m : ℕ). m < length (swap_remove ts i)) e l);
            })
        | inr t ↦ record { k = j; in_range = omega (arith, sr_length); other = differ j i t; here = λ e. absurd (differ j i t e); there = λ _. refl; is = sr_same j l (differ j i t) }
      ]
    where
      no : j ≡ i → length ts - 1 ≡ i → ⊥
      no e q = omega (arith, sr_length)

  pub sr_all : (Q : Term → Type 0) → All Q ts → All Q (swap_remove ts i)
  sr_all Q a = all_index Q (swap_remove ts i) (λ j l. let s = source j l in subst Q (sym s.is) (index_all Q ts s.k s.in_range a))

  pub sr_distinct : Distinct ts → Distinct (swap_remove ts i)
  sr_distinct d p q hp hq e =
      let s = source p hp in
      let u = source q hq in
      let same : s.k ≡ u.k = d s.k u.k s.in_range u.in_range (ap (λ (t : Term). t.var) (sym s.is) ∙ e ∙ ap (λ (t : Term). t.var) u.is) in
      elim (test (eqb p i)) [
        | inl t ↦ elim (test (eqb q i)) [
          | inl t' ↦ eqb→eq p i t ∙ sym (eqb→eq q i t')
          | inr t' ↦ (let a = s.here (eqb→eq p i t) in let b = u.there (differ q i t') in absurd (far q hq (omega arith)))
        ]
        | inr t ↦ elim (test (eqb q i)) [
          | inl t' ↦ (let a = u.here (eqb→eq q i t') in let b = s.there (differ p i t) in absurd (far p hp (omega arith)))
          | inr t' ↦ (let a = s.there (differ p i t) in let b = u.there (differ q i t') in omega arith)
        ]
      ]
    where
      far : (j : ℕ) → j < length (swap_remove ts i) → j ≡ length ts - 1 → ⊥
      far j l e = omega (arith, sr_length)

pub dot_append : (x : ℕ → ℤ) (ts us : List Term) → dot x (ts ++ us) ≡ dot x ts +ℤ dot x us
unfolding dot
dot_append x [] us = sym (+ℤ_idl (dot x us))
dot_append x (t ∷ ts) us = ap (λ (z : ℤ). tv x t +ℤ z) (dot_append x ts us) ∙ sym (+ℤ_assoc (tv x t) (dot x ts) (dot x us))

pub dot_set : (x : ℕ → ℤ) (ts : List Term) (i : ℕ) (u : Term) → i < length ts → dot x (set ts i u) +ℤ tv x (get_or ts i no_term) ≡ dot x ts +ℤ tv x u
unfolding dot
dot_set x [] i u h = absurd (omega arith)
dot_set x (t ∷ ts) zero u h =
    ext _ _ (omega (arith, add_parts (tv x u) (dot x ts), add_parts (tv x t) (dot x ts), add_parts (tv x u +ℤ dot x ts) (tv x t), add_parts (tv x t +ℤ dot x ts) (tv x u)))
dot_set x (t ∷ ts) (suc i) u h =
    let g = get_or ts i no_term in
    let s = dot x (set ts i u) in
    ext _ _ (omega (
      arith,
      eq_parts (dot_set x ts i u (omega arith)),
      add_parts (tv x t) s,
      add_parts (tv x t +ℤ s) (tv x g),
      add_parts (tv x t) (dot x ts),
      add_parts (tv x t +ℤ dot x ts) (tv x u),
      add_parts s (tv x g),
      add_parts (dot x ts) (tv x u),
    ))

pub sr_dot : (x : ℕ → ℤ) (ts : List Term) (i : ℕ) → i < length ts → dot x (swap_remove ts i) +ℤ tv x (get_or ts i no_term) ≡ dot x ts
unfolding swap_remove dot
sr_dot x ts i h =
    let n = length ts - 1 in
    let u = get_or ts n no_term in
    let l = set ts i u in
    let len : length l ≡ length ts = length-set ts i u in
    let lt : n < length l = omega arith in
    let e : take (suc n) l ≡ take n l ++ (get_or l n no_term ∷ []) = take-suc l n no_term lt in
    let a : take (suc n) l ≡ l = take_all (suc n) l (omega arith) in
    let last : get_or l n no_term ≡ u = elim (test (eqb n i)) [
      | inl t ↦ (let q = eqb→eq n i t in subst (λ (m : ℕ). get_or (set ts m u) n no_term ≡ u) q (get_or-set_same ts n u no_term (omega arith)))
      | inr t ↦ get_or-set_other ts i n u no_term (differ n i t)
    ] in
    let d : dot x l ≡ dot x (take n l) +ℤ (tv x u +ℤ pos 0) =
    ap (dot x) (sym a ∙ e) ∙ dot_append x (take n l) (get_or l n no_term ∷ []) ∙ ap (λ (t : Term). dot x (take n l) +ℤ (tv x t +ℤ pos 0)) last in
    let s = dot_set x ts i u h in
    ext _ _ (omega (
      arith,
      eq_parts d,
      eq_parts s,
      add_parts (dot x (take n l)) (tv x u +ℤ pos 0),
      add_parts (tv x u) (pos 0),
      add_parts (dot x l) (tv x (get_or ts i no_term)),
      add_parts (dot x ts) (tv x u),
      add_parts (dot x (take n l)) (tv x (get_or ts i no_term)),
    ))

module _ (M : Model) {Sought : PointSet} (w : Work) (g : GoodW M Sought w) (r : ℕ) where
  -- a zero coefficient leaves
  pub zero_ok : (row : Row) (i : ℕ) → i < length row.terms → RowOk M w.elo w.ehi r row → T (eq (get_or row.terms i no_term).coeff 0f)
      → RowOk M w.elo w.ehi r (with_terms (swap_remove row.terms i) row)
  zero_ok row i h o z =
      let t = get_or row.terms i no_term in
      let c = index_all (TermOk (length M.lower)) row.terms i h o.terms in
      let q : P (int t.coeff) + N (int 0f) ≡ P (int 0f) + N (int t.coeff) = eqb→eq _ _ (subst T (laws.eq_is c.coeff.whole zero_is.whole) z) in
      let nil : int t.coeff ≡ pos 0 = ext _ _ (omega (arith, eq_parts zero_is.is)) in
      re_terms M (swap_remove row.terms i) o (sr_all row.terms i h (TermOk (length M.lower)) o.terms) (sr_distinct row.terms i h o.distinct)
      (omega (arith, sr_length row.terms i h))
      (λ x ag.
      let v : tv x t ≡ pos 0 = ap (λ (z : ℤ). z *ℤ x t.var) nil ∙ zero-*ℤ (x t.var) in
      (ag, sym (+ℤ_idr _) ∙ ap (λ (z : ℤ). dot x (swap_remove row.terms i) +ℤ z) (sym v) ∙ sr_dot x row.terms i h))

  pub side_sub : {free : Bool} {e x s : Float} {b z : ℤ} (j k : ℕ) → ((y : Float) → Whole y → e ⊖ y ≡ e) → Side free e x b → Is s z → A b ≤ j → A z ≤ k → j + k ≤ 2 ^ 53 → Side free e (x ⊖ s) (b -ℤ z)
  side_sub {e = e} {s = s} j k stays d p h l n =
      record { free = λ t. ap (λ (y : Float). y ⊖ s) (d.free t) ∙ stays s p.whole; shut = λ t. diff j k (d.shut t) p h l n }
