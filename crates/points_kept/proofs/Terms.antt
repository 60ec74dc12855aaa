-- LISTS OF TERMS: facts of each term, distinct variables, and the least and the greatest that a list comes to over a box.
use Rattle.std.specs.Prelude.{ℕ, ◌<◌, zero, suc, ◌≡◌, ◌≢◌, length, get_or}
use Rattle.std.proofs.Common.{arith, sym, subst, inl, inr}
use mathlib.Core.List.Memᴰ
use mathlib.Core.List.{Memᴰ, List, [], ◌∷◌}
use Rattle.tolerances.specs.Tol.{Term}
use Rattle.definition.specs.Work.{no_term}
use Rattle.points_kept.specs.Terms.{All, Distinct}

pub all_map : {Q R : Term → Type 0} (ts : List Term) → ((t : Term) → Q t → R t) → All Q ts → All R ts
all_map [] f a = tt
all_map (t ∷ ts) f a = (f t a.0, all_map ts f a.1)

pub all_both : (Q R : Term → Type 0) (ts : List Term) → All Q ts → All R ts → All (λ t. Q t × R t) ts
all_both Q R [] a b = tt
all_both Q R (t ∷ ts) a b = ((a.0, b.0), all_both Q R ts a.1 b.1)

pub all_index : (Q : Term → Type 0) (ts : List Term) → ((i : ℕ) → i < length ts → Q (get_or ts i no_term)) → All Q ts
all_index Q [] f = tt
all_index Q (t ∷ ts) f = (f 0 (omega arith), all_index Q ts (λ i h. f (suc i) (omega arith)))

pub index_all : (Q : Term → Type 0) (ts : List Term) (i : ℕ) → i < length ts → All Q ts → Q (get_or ts i no_term)
index_all Q [] i h a = absurd (omega arith)
index_all Q (t ∷ ts) zero h a = a.0
index_all Q (t ∷ ts) (suc i) h a = index_all Q ts i (omega arith) a.1

pub member_all : (Q : Term → Type 0) (ts : List Term) (t : Term) → Memᴰ t ts → All Q ts → Q t
member_all Q [] t m a = absurd (Memᴰ.not-nil m)
member_all Q (u ∷ ts) t m a = elim (Memᴰ.cases_cons m) [ inl e ↦ subst Q (sym e) a.0 | inr n ↦ member_all Q ts t n a.1 ]

pub tail_other : (t : Term) (ts : List Term) → Distinct (t ∷ ts) → All (λ u. u.var ≢ t.var) ts
tail_other t ts d = all_index (λ u. u.var ≢ t.var) ts (λ i h e. let z : suc i ≡ 0 = d (suc i) 0 (omega arith) (omega arith) e in omega arith)

pub tail_distinct : (t : Term) (ts : List Term) → Distinct (t ∷ ts) → Distinct ts
tail_distinct t ts d i j h k e = let s : suc i ≡ suc j = d (suc i) (suc j) (omega arith) (omega arith) e in omega arith
