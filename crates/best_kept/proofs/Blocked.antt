-- WHAT THE FLAGS OF DUAL FIXING SAY: a variable's flag is set by every term of it through which a move could hurt a row. So where it is not set, the variable's coefficients in a
-- row at work are of the sign that lets it move: to fall, positive ones where the row has an upper side, and none that is positive where it has a lower one.
use Rattle.std.specs.Prelude.{ℕ, zero, suc, ◌<◌, ◌≡◌, refl, ◌≢◌, Bool, true, false, not, List, [], ◌∷◌, T, length, get_or, set}
use Rattle.std.proofs.Common.{sym, ap, subst, ◌∙◌, inl, inr, length-set, get_or-set_same, get_or-set_other}
use Rattle.floats.specs.Num.{choose, gt, 0f, is_finite}
use Rattle.tolerances.specs.Tol.{Term}
use Rattle.definition.specs.Model.{Row}
use Rattle.definition.specs.Dual.{block_terms, bad_dec, bad_inc, none_bad}
use Rattle.definition.specs.Choices.{both}
use Rattle.definition.specs.Tests.{test, chosen, unchosen, never}
use Rattle.points_kept.proofs.Terms.{all_map}
use Rattle.best_kept.specs.Blocked.{Clear, Falls, Free, Rises, Unblocked}

pub unblocked : (if_pos if_neg : Bool) (v : ℕ) (ts : List Term) → Free if_pos if_neg v ts → Unblocked if_pos if_neg v ts
unblocked if_pos if_neg v ts f =
    record { minus = λ p. all_map ts (λ t h e. not_so (gt t.coeff 0f) if_pos if_neg p (h e)) f; plus = λ q. all_map ts (λ t h e. so (gt t.coeff 0f) if_pos if_neg q (h e)) f }
  where
    not_so : (b p q : Bool) → T p → T (not (choose b p q)) → T (not b)
    not_so b p q t n = elim (test b) [ inl h ↦ absurd (never p (subst (λ (c : Bool). T (not c)) (chosen b p q h) n) t) | inr h ↦ h ]

    so : (b p q : Bool) → T q → T (not (choose b p q)) → T b
    so b p q t n = elim (test b) [ inl h ↦ h | inr h ↦ absurd (never q (subst (λ (c : Bool). T (not c)) (unchosen b p q h) n) t) ]

pub flag_back : (u v : ℕ) (bad : List Bool) (c : Bool) → v < length bad → Clear v (choose c (set bad u true) bad) → Clear v bad × (u ≡ v → T (not c))
unfolding choose
flag_back u v bad false h n = (n, λ e. tt)
flag_back u v bad true h n =
    let d : u ≢ v = λ e.
    subst (λ (b : Bool). T (not b)) (ap (λ (j : ℕ). get_or (set bad u true) j true) (sym e) ∙ get_or-set_same bad u true true (subst (λ (j : ℕ). j < length bad) (sym e) h)) n in
    (subst (λ (b : Bool). T (not b)) (get_or-set_other bad u v true true (λ e. d (sym e))) n, λ e. absurd (d e))

pub block_length : (p q : Bool) (ts : List Term) (bad : List Bool) → length (block_terms p q ts bad) ≡ length bad
unfolding block_terms
block_length p q [] bad = refl
block_length p q (t ∷ ts) bad = block_length p q ts _ ∙ both (λ (l : List Bool). length l ≡ length bad) (choose (gt t.coeff 0f) p q) (length-set bad t.var true) refl

pub block_clear : (p q : Bool) (v : ℕ) (ts : List Term) (bad : List Bool) → v < length bad → Clear v (block_terms p q ts bad) → Clear v bad × Free p q v ts
unfolding block_terms
block_clear p q v [] bad h n = (n, tt)
block_clear p q v (t ∷ ts) bad h n =
    let c = choose (gt t.coeff 0f) p q in
    let l = both (λ (l : List Bool). v < length l) c (subst (λ (k : ℕ). v < k) (sym (length-set bad t.var true)) h) h in
    let i = block_clear p q v ts (choose c (set bad t.var true) bad) l n in
    let j = flag_back t.var v bad c h i.0 in
    (j.0, (j.1, i.1))

-- of a row, where it is alive
pub row_clear : (p q : Bool) (v : ℕ) (row : Row) (bad : List Bool) (a : Bool) → v < length bad → Clear v (choose a (block_terms p q row.terms bad) bad)
    → Clear v bad × (T a → Unblocked p q v row.terms)
unfolding choose
row_clear p q v row bad true h n = let i = block_clear p q v row.terms bad h n in (i.0, λ t. unblocked p q v row.terms i.1)
row_clear p q v row bad false h n = (n, λ t. absurd t)

pub row_length : (p q : Bool) (v : ℕ) (row : Row) (bad : List Bool) (a : Bool) → v < length bad → v < length (choose a (block_terms p q row.terms bad) bad)
row_length p q v row bad a h = both (λ (l : List Bool). v < length l) a (subst (λ (k : ℕ). v < k) (sym (block_length p q row.terms bad)) h) h

-- of the first row and of those after it
pub falls_cons : (v : ℕ) (row : Row) (rows : List Row) → (T row.alive → Unblocked (is_finite row.lo) (is_finite row.hi) v row.terms)
    → ((r : ℕ) → Falls v rows r) → (r : ℕ) → Falls v (row ∷ rows) r
falls_cons v row rows f g zero = f
falls_cons v row rows f g (suc r) = g r

pub rises_cons : (v : ℕ) (row : Row) (rows : List Row) → (T row.alive → Unblocked (is_finite row.hi) (is_finite row.lo) v row.terms)
    → ((r : ℕ) → Rises v rows r) → (r : ℕ) → Rises v (row ∷ rows) r
rises_cons v row rows f g zero = f
rises_cons v row rows f g (suc r) = g r

pub dec_clear : (v : ℕ) (rows : List Row) (bad : List Bool) → v < length bad → Clear v (bad_dec rows bad) → Clear v bad × ((r : ℕ) → Falls v rows r)
unfolding bad_dec
dec_clear v [] bad h n = (n, λ r a. absurd a)
dec_clear v (row ∷ rows) bad h n =
    let i = dec_clear v rows _ (row_length (is_finite row.lo) (is_finite row.hi) v row bad row.alive h) n in
    let j = row_clear (is_finite row.lo) (is_finite row.hi) v row bad row.alive h i.0 in
    (j.0, falls_cons v row rows j.1 i.1)

pub inc_clear : (v : ℕ) (rows : List Row) (bad : List Bool) → v < length bad → Clear v (bad_inc rows bad) → Clear v bad × ((r : ℕ) → Rises v rows r)
unfolding bad_inc
inc_clear v [] bad h n = (n, λ r a. absurd a)
inc_clear v (row ∷ rows) bad h n =
    let i = inc_clear v rows _ (row_length (is_finite row.hi) (is_finite row.lo) v row bad row.alive h) n in
    let j = row_clear (is_finite row.hi) (is_finite row.lo) v row bad row.alive h i.0 in
    (j.0, rises_cons v row rows j.1 i.1)

pub none_length : (n : ℕ) → length (none_bad n) ≡ n
unfolding none_bad
none_length zero = refl
none_length (suc n) = ap suc (none_length n)

-- ---- THE LAW: where v's flag is not set, no row at work keeps v from falling, or from rising
pub may_fall_lem : (n v : ℕ) (rows : List Row) → v < n → T (not (get_or (bad_dec rows (none_bad n)) v true)) → (r : ℕ) → Falls v rows r
may_fall_lem n v rows h c = (dec_clear v rows (none_bad n) (subst (λ (k : ℕ). v < k) (sym (none_length n)) h) c).1

pub may_rise_lem : (n v : ℕ) (rows : List Row) → v < n → T (not (get_or (bad_inc rows (none_bad n)) v true)) → (r : ℕ) → Rises v rows r
may_rise_lem n v rows h c = (inc_clear v rows (none_bad n) (subst (λ (k : ℕ). v < k) (sym (none_length n)) h) c).1
