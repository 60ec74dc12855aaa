-- A result slice that is written from the front: the list l over what was there.
use Rattle.std.specs.Prelude.{ℕ, suc, ◌+◌, ◌≤◌, ◌<◌, ◌≡◌, Bool, length, get_or, take, drop}
use Rattle.std.proofs.Common.{arith, sym, ◌∙◌, subst, length-drop, drop-cons, take-suc, take_all, length-take-le}
use Rattle.std.proofs.Math.Numerals.{add-one}
use Rattle.std.proofs.Math.Path.{refl, ap}
use Rattle.std.proofs.Math.Bool.{true, false}
use mathlib.Core.List.{List, [], ◌∷◌, ◌++◌}
use Rattle.std.proofs.Math.ListN.{set, length-append}
use Rattle.std.proofs.lemmas.List.{set_at}
use Rattle.std.proofs.Math.Seq.{append_snoc}
use Rattle.floats.specs.Num.{choose}
use Rattle.view.specs.Lists.{yes, no}
use Rattle.emit.specs.Fates.{collect, collect_length}

module _ {A : Type 0} where
  abbrev pub over : List A → List A → List A
  over l old = l ++ drop (length l) old

  pub over_length : (l old : List A) → length l ≤ length old → length (over l old) ≡ length old
  over_length l old p = let z = length-append l (drop (length l) old) in let y = length-drop (length l) old in omega (arith, z, y, p)

  -- one more
  pub over_set : (l old : List A) (x : A) → length l < length old → set (over l old) (length l) x ≡ over (l ++ (x ∷ [])) old
  over_set l old x p =
      let n : length (l ++ (x ∷ [])) ≡ suc (length l) = let z = length-append l (x ∷ []) in omega (arith, z) in
      ap (λ (t : List A). set (l ++ t) (length l) x) (drop-cons old (length l) x p) ∙ set_at l _ (drop (suc (length l)) old) x (length l) refl
      ∙ sym (append_snoc l x (drop (suc (length l)) old)) ∙ ap (λ (k : ℕ). (l ++ (x ∷ [])) ++ drop k old) (sym n)

  -- what p takes of the numbers below r is written, and counted
  pub record Filled (p : ℕ → Bool) (g : ℕ → A) (r : ℕ) (old new : List A) (n : ℕ) : Type 0 where
    pub list : new ≡ over (collect p g r) old
    pub count : n ≡ length (collect p g r)

  module _ (p : ℕ → Bool) (g : ℕ → A) where
    pub fill_start : (old : List A) → Filled p g 0 old old 0
    unfolding collect
    fill_start old = record { list = refl; count = refl }

    module _ {r : ℕ} {old new : List A} {n : ℕ} (F : Filled p g r old new n) where
      pub fill_kept : r ≤ length old → length new ≡ length old
      fill_kept l = ap length F.list ∙ over_length (collect p g r) old (let z = collect_length p g r in omega (arith, z, l))

      pub fill_room : {k : ℕ} → r < k → k ≤ length old → n < length new
      fill_room {k} l m = let z = collect_length p g r in let y = fill_kept (omega (arith, l, m)) in omega (arith, z, y, F.count, l, m)

      -- the turn, by whether r is taken
      turn_list : (b : Bool) → length (collect p g r) < length old → choose b (set new n (g r)) new ≡ over (choose b (collect p g r ++ (g r ∷ [])) (collect p g r)) old
      unfolding choose
      turn_list true l = ap (λ (t : List A). set t n (g r)) F.list ∙ ap (λ (k : ℕ). set (over (collect p g r) old) k (g r)) F.count ∙ over_set (collect p g r) old (g r) l
      turn_list false l = F.list

      turn_count : (b : Bool) → choose b (suc n) n ≡ length (choose b (collect p g r ++ (g r ∷ [])) (collect p g r))
      unfolding choose
      turn_count true = let z = length-append (collect p g r) (g r ∷ []) in omega (arith, z, F.count)
      turn_count false = F.count

      -- r is taken
      pub fill_one : {k : ℕ} {x : A} {new' : List A} {z : ℕ} → r < k → k ≤ length old → p r ≡ true → x ≡ g r → new' ≡ set new n x → z ≡ n + 1 → Filled p g (r + 1) old new' z
      unfolding collect
      fill_one l m t e a b =
          let c : collect p g (r + 1) ≡ collect p g r ++ (g r ∷ []) = rw add-one (yes _ _ t) in
          let y = collect_length p g r in
          let w = length-append (collect p g r) (g r ∷ []) in
          record {
            list =
                a ∙ ap (set new n) e ∙ ap (λ (q : List A). set q n (g r)) F.list ∙ ap (λ (j : ℕ). set (over (collect p g r) old) j (g r)) F.count
                ∙ over_set (collect p g r) old (g r) (omega (arith, y, l, m)) ∙ ap (λ (q : List A). over q old) (sym c);
            count = rw c (omega (arith, b, w, F.count));
          }

      -- r is left
      pub fill_none : {new' : List A} {z : ℕ} → p r ≡ false → new' ≡ new → z ≡ n → Filled p g (r + 1) old new' z
      unfolding collect
      fill_none t a b =
          let c : collect p g (r + 1) ≡ collect p g r = rw add-one (no _ _ t) in
          record { list = a ∙ F.list ∙ ap (λ (q : List A). over q old) (sym c); count = b ∙ F.count ∙ ap length (sym c) }

      pub fill_end : {k : ℕ} → r ≤ k → k ≤ r → Filled p g k old new n
      fill_end {k} l m = let z : r ≡ k = omega (arith, l, m) in subst (λ (j : ℕ). Filled p g j old new n) z F

-- ---- a whole block of n, place by place: the first v places are written
pub record CopiedUpTo {A : Type 0} (l old : List A) (n v : ℕ) (new : List A) : Type 0 where
  pub long : length l ≡ n
  pub room : n ≤ length old
  pub upto : v ≤ n
  pub list : new ≡ over (take v l) old

pub copy_start : {A : Type 0} {l old : List A} {n : ℕ} → length l ≡ n → n ≤ length old → CopiedUpTo l old n 0 old
copy_start p q = record { long = p; room = q; upto = omega arith; list = refl }

module _ {A : Type 0} {l old : List A} {n v : ℕ} {new : List A} (C : CopiedUpTo l old n v new) where
  taken : length (take v l) ≡ v
  taken = length-take-le v l (omega (arith, C.upto, C.long))

  pub copy_kept : length new ≡ length old
  copy_kept = ap length C.list ∙ over_length (take v l) old (omega (arith, taken, C.upto, C.room))

  pub copy_turn : (d : A) {x : A} → v < n → x ≡ get_or l v d → CopiedUpTo l old n (v + 1) (set new v x)
  copy_turn d {x} p f =
      record {
        long = C.long;
        room = C.room;
        upto = omega (arith, p);
        list =
            ap (λ (t : List A). set t v x) C.list ∙ ap (λ (k : ℕ). set (over (take v l) old) k x) (sym taken)
            ∙ over_set (take v l) old x (omega (arith, taken, p, C.room))
            ∙ ap (λ (t : List A). over t old)
            (ap (λ (y : A). take v l ++ (y ∷ [])) f ∙ sym (take-suc l v d (omega (arith, p, C.long))) ∙ ap (λ (k : ℕ). take k l) (sym (add-one v)));
      }

  pub copy_end : n ≤ v → new ≡ over l old
  copy_end p = C.list ∙ ap (λ (t : List A). over t old) (take_all v l (omega (arith, p, C.long)))
