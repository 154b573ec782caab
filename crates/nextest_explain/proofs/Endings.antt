-- Statuses that are not that of success.
use Rattle.std.proofs.Common.{◌≡◌, ◌⊎◌, inl, inr, ℕ, arith}
use Rattle.nextest_explain.specs.Statuses.{IsRefusalStatus}

-- a run without memory does not succeed
pub memory_is_no_success : {X : Type 0} (n : ℕ) → (n ≡ 5) ⊎ (n ≡ 6) → n ≡ 0 → X
memory_is_no_success n (inl e) zero = absurd (omega arith)
memory_is_no_success n (inr e) zero = absurd (omega arith)

-- a refusal does not succeed
pub refusal_is_no_success : {X : Type 0} (n : ℕ) → IsRefusalStatus n ⊎ (n ≡ 6) → n ≡ 0 → X
refusal_is_no_success n (inl (inl e)) zero = absurd (omega arith)
refusal_is_no_success n (inl (inr (inl e))) zero = absurd (omega arith)
refusal_is_no_success n (inl (inr (inr (inl e)))) zero = absurd (omega arith)
refusal_is_no_success n (inl (inr (inr (inr e)))) zero = absurd (omega arith)
refusal_is_no_success n (inr e) zero = absurd (omega arith)
