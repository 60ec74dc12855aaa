-- Whether a row forces its variables, by the ways through the code.
use Rattle.std.specs.Prelude.{ℕ, zero, suc, ◌+◌, ◌-◌, ◌<◌, ◌≡◌, refl, ◌⊎◌, Bool, true, false, ◌&&◌, List, [], ◌∷◌, length, get_or, Float}
use Rattle.std.proofs.Common.{arith, ap, sym, subst, ◌∙◌, inl, inr}
use Rattle.std.specs.Float.{nan}
use Rattle.std.specs.Bool.{MatchBool}
use Rattle.std.specs.List.{range_with_len, AllWithin, HoldsAt}
use Rattle.std.proofs.lemmas.List.FromFn.{length-range_with_len, get_or-range_with_len}
use borrow.Author.Tests.{eq-eqb, ne_eqb}
use Rattle.floats.specs.Num.{choose, ◌⊖◌}
use Rattle.tolerances.specs.Tol.{Term, term}
use Rattle.definition.specs.declared.Activity.{Activity}
use Rattle.definition.specs.Model.{Model, is_int}
use Rattle.definition.specs.Work.{Work, no_term}
use Rattle.definition.specs.Sides.{mag_l, mag_u, near_min, near_max}
use Rattle.definition.specs.Forcing.{forced_term, all_forced, forcing_at, forces_min, forces_max}
use Rattle.definition.specs.Choices.{and_false}
use Rattle.space.specs.declared.Context.{Context}
use Rattle.space.specs.Store.{Floats, Numbers}
use Rattle.formulas.specs.declared.Limits.{Limits}
use Rattle.formulas.specs.Bare.{bare, Says, near_min_of, near_max_of, mag_l_of, mag_u_of}
use Rattle.formulas.specs.Forcing.{forced_by, forced_of, sliver_fits, forcing_of}
use Rattle.view.specs.declared.Lists.{Lists}
use Rattle.view.specs.Call.{Call}
use Rattle.view.specs.Shows.{Shows}
use Rattle.view.specs.Inv.{Inv}
use Rattle.view.specs.Acts.{Ready, Reads}
use Rattle.view.specs.Known.{Spans}
use Rattle.view.specs.Lists.{yes, no}
use Rattle.view.specs.Bounds.{elo_is, ehi_is}
use Rattle.readers.specs.Reading.{row_of, Alive, ReadsF, ReadsM, Domains}
use Rattle.readers.specs.Limits.{ReadsLimits}
use Rattle.readers.specs.RowAt.{row_at, row_ready, live_place}
use Rattle.readers.specs.Knowing.{Looks, looks_spans, looks_domains, of_limits}

-- ---- forced_term
pub forced_is : {lists : Lists} {s : Context} {f : Floats} (r v : ℕ) (a sliver mag : Float) {x : Limits} {k : ℕ} {int z : Bool} {lo hi : Float}
    → ReadsLimits s f r k x → k ≡ get_or lists.rows.starts.now (r + 1) 0 - get_or lists.rows.starts.now r 0 → ReadsM (Domains lists.domain.now) s int (λ M. is_int M v)
    → lo ≡ get_or f.elo v nan → hi ≡ get_or f.ehi v nan → Says x.feas x.terms z (λ M q. forced_by M q int a lo hi sliver mag)
    → ReadsF (Looks lists) s f z (λ M w. forced_term M r sliver mag w (term v a))
forced_is r v a sliver mag lim ek ei e₁ e₂ ez =
    record {
      reads = λ M n o k w p c h i.
          sym (forced_of M r sliver mag w (term v a)) ∙ cc (ei.reads M (looks_domains M p) c, elo_is v h e₁, ehi_is v h e₂, ez.of M r (of_limits lim c (looks_spans M p) ek));
    }

-- ---- all_forced
forced_none : (M : Model) (r : ℕ) (sliver mag : Float) (w : Work) → all_forced M r sliver mag w [] ≡ true
unfolding all_forced
forced_none M r sliver mag w = refl

forced_cons : (M : Model) (r : ℕ) (sliver mag : Float) (w : Work) (t : Term) (ts : List Term) → all_forced M r sliver mag w (t ∷ ts)
    ≡ (forced_term M r sliver mag w t && all_forced M r sliver mag w ts)
unfolding all_forced
forced_cons M r sliver mag w t ts = refl

-- a live term's place is small
pub live_small : {P : Model → Type 0} {s : Context} {f : Floats} {n : Numbers} {ss : List ℕ} {r i l : ℕ} → Ready P s f n → ((M : Model) → P M → Spans ss M)
    → r < s.rows → Alive n r → l ≡ get_or n.len r 0 → i < l → get_or ss r 0 + i < 65536
live_small {i = i} R q p a el il = omega (arith, live_place R q p a {j = i} (omega (arith, el, il)), (row_ready R q p a).small)

module _ (M : Model) (r : ℕ) (sliver mag : Float) (w : Work) where
  all_pass : (ts : List Term) → ((i : ℕ) → i < length ts → forced_term M r sliver mag w (get_or ts i no_term) ≡ true) → all_forced M r sliver mag w ts ≡ true
  all_pass [] e = forced_none M r sliver mag w
  all_pass (t ∷ ts) e = forced_cons M r sliver mag w t ts ∙ (λ x. e 0 (omega arith) x && all_pass ts (λ i q. e (suc i) (omega (arith, q))) x)

  one_fails : (ts : List Term) (i : ℕ) → i < length ts → forced_term M r sliver mag w (get_or ts i no_term) ≡ false → all_forced M r sliver mag w ts ≡ false
  one_fails [] i q e = absurd (omega arith)
  one_fails (t ∷ ts) zero q e = forced_cons M r sliver mag w t ts ∙ ap (λ (b : Bool). b && all_forced M r sliver mag w ts) e
  one_fails (t ∷ ts) (suc i) q e = forced_cons M r sliver mag w t ts ∙ ap (λ (b : Bool). forced_term M r sliver mag w t && b) (one_fails ts i (omega arith) e)
      ∙ and_false (forced_term M r sliver mag w t) false refl

-- the i-th live term, and what is read of it
abbrev live_term : List ℕ → Floats → Numbers → ℕ → ℕ → Term
live_term ss f n r i = term (get_or n.vars (get_or ss r 0 + i) 0) (get_or f.coeffs (get_or ss r 0 + i) nan)

pub record TermTold (lists : Lists) (s : Context) (f : Floats) (n : Numbers) (r : ℕ) (sliver mag : Float) (z : Bool) (i : ℕ) : Type 0 where
  pub told : ReadsF (Looks lists) s f z (λ M w. forced_term M r sliver mag w (live_term lists.rows.starts.now f n r i))

pub told_of : {lists : Lists} {s : Context} {f : Floats} {n : Numbers} {r i v : ℕ} {sliver mag y : Float} {z b : Bool} → ReadsF (Looks lists) s f b (λ M w. forced_term M r sliver mag w (term v y))
    → z ≡ b → v ≡ get_or n.vars (get_or lists.rows.starts.now r 0 + i) 0 → y ≡ get_or f.coeffs (get_or lists.rows.starts.now r 0 + i) nan → TermTold lists s f n r sliver mag z i
told_of t ez ev ey = record { told = record { reads = λ M n o k w p c h i. cc (ez, ev, ey, t.reads M n o k w p c h i) } }

module _ {lists : Lists} {s : Context} {f : Floats} {n : Numbers} {r l : ℕ} (p : r < s.rows) (a : Alive n r) (el : l ≡ get_or n.len r 0) (sliver mag : Float) where
  module _ {M : Model} {o : List ℕ} {k : ℕ} {w : Work} (q : Looks lists M) (c : Call M s) (h : Shows M f n o w) (j : Inv M k w) where
    asked_of : {z : Bool} (i : ℕ) → i < length (row_of w r).terms → TermTold lists s f n r sliver mag z i → forced_term M r sliver mag w (get_or (row_of w r).terms i no_term) ≡ z
    asked_of i m t =
        let u = (row_at c h p a j (looks_spans M q)).terms i m in
        let ev = sym u.var in
        let ey = sym u.coeff in
        let e : get_or (row_of w r).terms i no_term ≡ live_term lists.rows.starts.now f n r i = λ x. term (ev x) (ey x) in
        ap (forced_term M r sliver mag w) e ∙ t.told.reads M n o k w q c h j

    len_of : length (row_of w r).terms ≡ l
    len_of = omega (arith, el, (row_at c h p a j (looks_spans M q)).len)

  at_range : {z : Bool} (i : ℕ) → i < l → TermTold lists s f n r sliver mag z (get_or (range_with_len 0 l) i 0) → TermTold lists s f n r sliver mag z i
  at_range {z} i m t = let e : get_or (range_with_len 0 l) i 0 ≡ i = omega (arith, get_or-range_with_len 0 l i 0 m) in subst (TermTold lists s f n r sliver mag z) e t

  pub all_forced_is : (z : Bool) → MatchBool z (AllWithin (TermTold lists s f n r sliver mag true) (range_with_len 0 l) 0 (length (range_with_len 0 l)))
      ((i : ℕ) × (i < length (range_with_len 0 l)) × HoldsAt (TermTold lists s f n r sliver mag false) (range_with_len 0 l) i)
      → Reads (Looks lists) s f n z (λ M w. all_forced M r sliver mag w (row_of w r).terms)
  all_forced_is true e =
      record {
        reads = λ M o k w q c h j.
            all_pass M r sliver mag w (row_of w r).terms
            (λ i m. let b : i < l = omega (arith, m, len_of q c h j) in
            asked_of q c h j i m (at_range i b (e i 0 (omega arith) (omega (arith, b, length-range_with_len 0 l)))));
      }
  all_forced_is false (i, m, e) =
      record {
        reads = λ M o k w q c h j.
            let b : i < l = omega (arith, m, length-range_with_len 0 l) in
            let m' : i < length (row_of w r).terms = omega (arith, b, len_of q c h j) in
            one_fails M r sliver mag w (row_of w r).terms i m' (asked_of q c h j i m' (at_range i b (e 0)));
      }

-- ---- forcing_at
module _ {lists : Lists} {s : Context} {f : Floats} (r : ℕ) (sliver mag : Float) {x : Limits} {k : ℕ} {b : Bool} (lim : ReadsLimits s f r k x)
    (ek : k ≡ get_or lists.rows.starts.now (r + 1) 0 - get_or lists.rows.starts.now r 0) (eb : Says x.feas x.terms b (λ M q. sliver_fits M q sliver mag)) where
  fits_is : {M : Model} (w : Work) (ts : List Term) → Looks lists M → Call M s → forcing_at M r sliver mag w ts ≡ (b && all_forced M r sliver mag w ts)
  fits_is {M} w ts p c = sym (forcing_of M r sliver mag w ts) ∙ ap (λ (y : Bool). y && all_forced M r sliver mag w ts) (sym (eb.of M r (of_limits lim c (looks_spans M p) ek)))

  pub forcing_not : {n : Numbers} → b ≡ false → Reads (Looks lists) s f n false (λ M w. forcing_at M r sliver mag w (row_of w r).terms)
  forcing_not e = record { reads = λ M o k w p c h i. fits_is w (row_of w r).terms p c ∙ ap (λ (y : Bool). y && all_forced M r sliver mag w (row_of w r).terms) e }

  pub forcing_all : {n : Numbers} {z : Bool} → b ≡ true → Reads (Looks lists) s f n z (λ M w. all_forced M r sliver mag w (row_of w r).terms) → Reads (Looks lists) s f n z
      (λ M w. forcing_at M r sliver mag w (row_of w r).terms)
  forcing_all e t =
      record { reads = λ M o k w p c h i. fits_is w (row_of w r).terms p c ∙ ap (λ (y : Bool). y && all_forced M r sliver mag w (row_of w r).terms) e ∙ t.reads M o k w p c h i }

-- ---- forces_min and forces_max
module _ {lists : Lists} {s : Context} {f : Floats} {n : Numbers} (r : ℕ) (act e : Activity) {x : Limits} {l : ℕ} {b : Bool} (a : Alive n r)
    (lim : ReadsLimits s f r l x) (el : l ≡ get_or lists.rows.starts.now (r + 1) 0 - get_or lists.rows.starts.now r 0) where
  module _ (eb : Says x.feas x.terms b (λ M q. near_min M q (bare x) act)) where
    near_min_is : {M : Model} {o : List ℕ} {w : Work} → Looks lists M → Call M s → Shows M f n o w → near_min M r (row_of w r) act ≡ b
    near_min_is {M} {o} {w} p c h = sym (eb.of M r (of_limits lim c (looks_spans M p) el) ∙ near_min_of M r act (lim.has M n o w c h a))

    pub min_far : b ≡ false → Reads (Looks lists) s f n false (λ M w. forces_min M r (row_of w r) act e w)
    unfolding forces_min
    min_far t = record { reads = λ M o k w p c h i. rw (near_min_is p c h ∙ t) }

    pub min_open : b ≡ true → (e.ninf_l ≡ 0 → ⊥) → Reads (Looks lists) s f n false (λ M w. forces_min M r (row_of w r) act e w)
    unfolding forces_min
    min_open t u = record { reads = λ M o k w p c h i. rw (near_min_is p c h ∙ t, ne_eqb e.ninf_l 0 u) }

    pub min_not : ((b ≡ true) × (e.ninf_l ≡ 0 → ⊥)) ⊎ (b ≡ false) → Reads (Looks lists) s f n false (λ M w. forces_min M r (row_of w r) act e w)
    min_not (inl (t, u)) = min_open t u
    min_not (inr t) = min_far t

    pub min_at : {mag : Float} {z : Bool} → b ≡ true → e.ninf_l ≡ 0 → mag ≡ mag_l (bare x) e → Reads (Looks lists) s f n z
        (λ M w. forcing_at M r (x.hi ⊖ e.l) mag w (row_of w r).terms) → Reads (Looks lists) s f n z (λ M w. forces_min M r (row_of w r) act e w)
    unfolding forces_min
    min_at {mag} t u g d =
        record {
          reads = λ M o k w p c h i.
              let q = lim.has M n o w c h a in
              let y : mag ≡ mag_l (row_of w r) e = g ∙ mag_l_of e q in
              rw (near_min_is p c h ∙ t, eq-eqb e.ninf_l 0 u, ← y, ← q.hi) (d.reads M o k w p c h i);
        }

  module _ (eb : Says x.feas x.terms b (λ M q. near_max M q (bare x) act)) where
    near_max_is : {M : Model} {o : List ℕ} {w : Work} → Looks lists M → Call M s → Shows M f n o w → near_max M r (row_of w r) act ≡ b
    near_max_is {M} {o} {w} p c h = sym (eb.of M r (of_limits lim c (looks_spans M p) el) ∙ near_max_of M r act (lim.has M n o w c h a))

    pub max_far : b ≡ false → Reads (Looks lists) s f n false (λ M w. forces_max M r (row_of w r) act e w)
    unfolding forces_max
    max_far t = record { reads = λ M o k w p c h i. rw (near_max_is p c h ∙ t) }

    pub max_open : b ≡ true → (e.ninf_u ≡ 0 → ⊥) → Reads (Looks lists) s f n false (λ M w. forces_max M r (row_of w r) act e w)
    unfolding forces_max
    max_open t u = record { reads = λ M o k w p c h i. rw (near_max_is p c h ∙ t, ne_eqb e.ninf_u 0 u) }

    pub max_not : ((b ≡ true) × (e.ninf_u ≡ 0 → ⊥)) ⊎ (b ≡ false) → Reads (Looks lists) s f n false (λ M w. forces_max M r (row_of w r) act e w)
    max_not (inl (t, u)) = max_open t u
    max_not (inr t) = max_far t

    pub max_at : {mag : Float} {z : Bool} → b ≡ true → e.ninf_u ≡ 0 → mag ≡ mag_u (bare x) e → Reads (Looks lists) s f n z
        (λ M w. forcing_at M r (e.u ⊖ x.lo) mag w (row_of w r).terms) → Reads (Looks lists) s f n z (λ M w. forces_max M r (row_of w r) act e w)
    unfolding forces_max
    max_at {mag} t u g d =
        record {
          reads = λ M o k w p c h i.
              let q = lim.has M n o w c h a in
              let y : mag ≡ mag_u (row_of w r) e = g ∙ mag_u_of e q in
              rw (near_max_is p c h ∙ t, eq-eqb e.ninf_u 0 u, ← y, ← q.lo) (d.reads M o k w p c h i);
        }

-- by the corner
module _ {P : Model → Type 0} {s : Context} {f : Floats} {n : Numbers} {z minCorner : Bool} (F G : Model → Work → Bool) where
  pub at_min : minCorner ≡ true → Reads P s f n z F → Reads P s f n z (λ M w. choose minCorner (F M w) (G M w))
  at_min e t = record { reads = λ M o k w p c h i. yes _ _ e ∙ t.reads M o k w p c h i }

  pub at_max : minCorner ≡ false → Reads P s f n z G → Reads P s f n z (λ M w. choose minCorner (F M w) (G M w))
  at_max e t = record { reads = λ M o k w p c h i. no _ _ e ∙ t.reads M o k w p c h i }
