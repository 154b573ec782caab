-- Closing the groups that are open in a regular expression.
use Rattle.std.proofs.Common.{◌≡◌, ℕ, ◌+◌, ◌<◌, ◌≤◌, List, [], ◌∷◌, length, arith}
use Rattle.std.specs.List.{fold}
use Rattle.filter_engine.specs.RegexSizes.{State, closed, whole, whole_of}
use Rattle.filter_engine.specs.declared.regex_size.size.Level.{Level}
use Rattle.filter_engine.specs.declared.regex_size.turn.Mode.{Mode}
use Rattle.filter_engine.specs.declared.regex_size.turn.Reading.{Reading}

length_onto : (levels outer : List Level)
    → length (fold (λ outer l. l ∷ outer) outer levels) ≡ length levels + length outer
length_onto [] outer = omega arith
length_onto (l ∷ levels) outer = let it = length_onto levels (l ∷ outer) in omega (arith, it)

-- There are as many levels in the one order as in the other.
pub outer_length : (levels : List Level) → length (fold (λ outer l. l ∷ outer) [] levels) ≡ length levels
outer_length levels = let it = length_onto levels [] in omega (arith, it)

-- So many states there are in all, and so many groups are closed, of those that stood open.
pub record IsClosing (s : State) (states done end : ℕ) : Type 0 where
  pub same : whole_of s ≡ states
  pub count : length s.outer + done ≡ end

closes_one : (mode : Mode) (reading : Reading) (inner : Level) (outer : List Level) (states done end : ℕ)
    → done < end → whole inner outer ≡ states → length outer + done ≡ end
    → IsClosing (closed mode reading inner outer) states (done + 1) end
closes_one mode reading inner [] states done end less same count = absurd (omega (arith, less, count))
closes_one mode reading inner (l ∷ outer) states done end less same count = record {
  same = same;
  count = omega (arith, count);
}

-- One more group is closed.
pub closing_more : (s t : State) (states done end : ℕ) → done < end
    → t ≡ closed s.mode s.reading s.inner s.outer → IsClosing s states done end
    → IsClosing t states (done + 1) end
closing_more s t states done end less is it =
    rw is (closes_one s.mode s.reading s.inner s.outer states done end less it.same it.count)

none_open : (inner : Level) (outer : List Level) (states done end : ℕ) → end ≤ done
    → whole inner outer ≡ states → length outer + done ≡ end → whole inner [] ≡ states
none_open inner [] states done end all same count = same
none_open inner (l ∷ outer) states done end all same count = absurd (omega (arith, all, count))

-- All groups are closed.
pub closing_done : (s : State) (states done end : ℕ) → end ≤ done → IsClosing s states done end
    → whole s.inner [] ≡ states
closing_done s states done end all it = none_open s.inner s.outer states done end all it.same it.count
