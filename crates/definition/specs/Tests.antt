-- Choices and tests said by `T`: a fact about a choice from facts about its sides, and what tests that are joined say. Laws that mention no model.
use Rattle.std.specs.Prelude.{ℕ, suc, ◌≤◌, ◌<◌, ◌≡◌, refl, ◌≢◌, ◌⊎◌, Bool, true, false, not, ◌&&◌, ◌||◌, T, eqb, ltb}
use Rattle.std.proofs.Common.{arith, subst, sym, inl, inr, ltb→lt, nltb→le, eqb→eq, T_not}
use Rattle.std.proofs.Math.Dec.{eqb_refl}
use Rattle.floats.specs.Num.{choose}

-- ---- choices
pub taking : {A : Type 0} (P : A → Type 0) (b : Bool) {x y : A} → (T b → P x) → (T (not b) → P y) → P (choose b x y)
unfolding choose
taking P true p q = p tt
taking P false p q = q tt

pub chosen : {A : Type 0} (b : Bool) (x y : A) → T b → choose b x y ≡ x
unfolding choose
chosen true x y h = refl
chosen false x y h = absurd h

pub unchosen : {A : Type 0} (b : Bool) (x y : A) → T (not b) → choose b x y ≡ y
unfolding choose
unchosen true x y h = absurd h
unchosen false x y h = refl

pub if_true : {A : Type 0} (Q : A → Type 0) (b : Bool) {x : A} (y : A) → T b → Q x → Q (choose b x y)
unfolding choose
if_true Q true y h q = q
if_true Q false y h q = absurd h

pub alike : {A B : Type 0} (R : A → B → Type 0) (b : Bool) {x y : A} {x' y' : B} → R x x' → R y y' → R (choose b x y) (choose b x' y')
unfolding choose
alike R true p q = p
alike R false p q = q

pub alike_by : {A B : Type 0} (R : A → B → Type 0) (b : Bool) {x y : A} {x' y' : B} → (T b → R x x') → (T (not b) → R y y') → R (choose b x y) (choose b x' y')
unfolding choose
alike_by R true p q = p tt
alike_by R false p q = q tt

-- ---- a side that a sign picks
pub pick : {A : Type 0} (Q : A → Type 0) (b u : Bool) {x y : A} → (T b → T u → Q x) → (T b → T (not u) → Q y) → (T (not b) → T (not u) → Q x)
    → (T (not b) → T u → Q y) → Q (choose (choose b u (not u)) x y)
unfolding choose
pick Q true true p q r s = p tt tt
pick Q true false p q r s = q tt tt
pick Q false true p q r s = s tt tt
pick Q false false p q r s = r tt tt

pub picked : {A : Type 0} (b u : Bool) (x y : A) → T b → choose (choose b u (not u)) x y ≡ choose u x y
unfolding choose
picked true u x y h = refl
picked false u x y h = absurd h

pub unpicked : {A : Type 0} (b u : Bool) (x y : A) → T (not b) → choose (choose b u (not u)) x y ≡ choose (not u) x y
unfolding choose
unpicked true u x y h = absurd h
unpicked false u x y h = refl

-- ---- tests
pub and : (a b : Bool) → T (a && b) → T a × T b
and true true h = (tt, tt)
and true false h = absurd h
and false b h = absurd h

pub and3 : (a b c : Bool) → T (a && b && c) → T a × T b × T c
and3 a b c h = let p = and (a && b) c h in let q = and a b p.0 in (q.0, q.1, p.1)

pub or : (a b : Bool) → T (a || b) → T a ⊎ T b
or true b h = inl tt
or false b h = inr h

pub nor : (a b : Bool) → T (not (a || b)) → T (not a) × T (not b)
nor true b h = absurd h
nor false b h = (tt, h)

pub test : (b : Bool) → T b ⊎ T (not b)
test true = inl tt
test false = inr tt

pub or_intro : (a b : Bool) → T a ⊎ T b → T (a || b)
or_intro true b h = tt
or_intro false b (inl h) = absurd h
or_intro false b (inr h) = h

pub or_le : (a b : ℕ) → T (ltb a b || eqb a b) → a ≤ b
or_le a b h = elim (or (ltb a b) (eqb a b) h) [ inl t ↦ omega (arith, ltb→lt a b t) | inr t ↦ omega (arith, eqb→eq a b t) ]

pub le_or : (a b : ℕ) → a ≤ b → T (ltb a b || eqb a b)
le_or a b h =
    or_intro (ltb a b) (eqb a b)
    (elim (test (ltb a b)) [ inl t ↦ inl t | inr t ↦ inr (subst (λ (n : ℕ). T (eqb a n)) (same (nltb→le a b t)) (eqb_refl a)) ])
  where
    same : b ≤ a → a ≡ b
    same k = omega arith

pub all_true : (p q : Bool) → T p → T q → T (p && q)
all_true true q h k = k
all_true false q h k = absurd h

pub never : (b : Bool) → T (not b) → T b → ⊥
never true n t = n
never false n t = t

-- ---- places
pub differ : (i j : ℕ) → T (not (eqb i j)) → i ≢ j
differ i j t e = T_not (eqb i j) t (subst (λ (k : ℕ). T (eqb i k)) e (eqb_refl i))

-- the last of r + 1 places, or one before it
pub last_or : {Q : ℕ → Type 0} (r : ℕ) → Q r → ((j : ℕ) → j < r → Q j) → (j : ℕ) → j < suc r → Q j
last_or {Q} r q f j h = elim (test (eqb j r)) [ inl t ↦ subst Q (sym (eqb→eq j r t)) q | inr t ↦ f j (near (differ j r t)) ]
  where
    near : j ≢ r → j < r
    near n = omega arith
