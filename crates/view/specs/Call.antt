-- The call as the port's functions have it: an accepted model M, and its scalars s. What an accepted model is, fact by fact.
use Rattle.std.specs.Prelude.{ℕ, suc, ◌≤◌, ◌<◌, ◌≡◌, length, get_or}
use Rattle.definition.specs.Params.{params}
use Rattle.definition.specs.Model.{Model, from, upto, is_mip}
use Rattle.space.specs.declared.Context.{Context}

pub record Call (M : Model) (s : Context) : Type 0 where
  pub vars : s.vars ≡ length M.lower
  pub rows : s.rows ≡ length M.rhs
  pub terms : s.terms ≡ length M.index
  pub mip : s.mip ≡ is_mip M
  pub feas : s.feas ≡ M.feas
  pub params : M.params ≡ params
  -- as many upper bounds, domains and objective coefficients as lower bounds; comparisons as right sides; coefficients as indices
  pub uppers : length M.upper ≡ length M.lower
  pub domains : length M.domain ≡ length M.lower
  pub objs : length M.obj ≡ length M.lower
  pub cmps : length M.cmp ≡ length M.rhs
  pub coeffs : length M.coeff ≡ length M.index
  pub starts : length M.starts ≡ suc (length M.rhs)
  -- the maxima
  pub max_vars : length M.lower ≤ 4096
  pub max_rows : length M.rhs ≤ 8192
  pub max_terms : length M.index ≤ 65536
  -- spans follow each other, and indices rise within a row
  pub rise : (r : ℕ) → r < length M.rhs → from M r ≤ upto M r
  pub last : (r : ℕ) → r < length M.rhs → upto M r ≤ length M.index
  pub index : (k : ℕ) → k < length M.index → get_or M.index k 0 < length M.lower
  pub rising : (r k : ℕ) → r < length M.rhs → from M r ≤ k → suc k < upto M r → get_or M.index k 0 < get_or M.index (suc k) 0
