-- The watermarks that a part is opened with, one source more.
use Rattle.std.proofs.Common.{◌≡◌, ◌+◌, ◌<◌, ◌≤◌, ℕ, Bool, true, false, cond, List, [], ◌∷◌, length, drop, get_or, ℤ, SFits, w64, sym, ap, ◌∙◌, arith}
use Rattle.std.proofs.lemmas.List.{drop_more, drop_all}
use Rattle.std.proofs.lemmas.Int.{ints, fits_signed_from_abs}
use Rattle.std.specs.Prelude.{Some, int_lt, pos}
use Rattle.wsm_windows.specs.Windows.{IsTime}
use Rattle.wsm_record.specs.Event.{Event, Watermark}
use Rattle.wsm_key_parts.specs.OpenedLate.{openers}

-- those of a source and of all behind it
abbrev pub from_source : ℤ → List ℤ → ℕ → List Event
from_source start marks source = openers start source (drop source marks)

module _ (start : ℤ) (marks : List ℤ) (source : ℕ) (few : source < length marks) (time : ℤ) (is : get_or marks source (pos 0) ≡ time) where
  one_more : (past : Bool) → int_lt start time ≡ past → from_source start marks source ≡ cond past (Watermark (Some source) time ∷ from_source start marks (source + 1)) (from_source start marks (source + 1))
  one_more past h =
      ap (openers start source) (drop_more marks source (pos 0) few ∙ ap (λ (m : ℤ). m ∷ drop (source + 1) marks) is)
      ∙ ap (λ (b : Bool). cond b (Watermark (Some source) time ∷ from_source start marks (source + 1)) (from_source start marks (source + 1))) h

  -- a mark past the start is told
  pub told : int_lt start time ≡ true → Watermark (Some source) time ∷ from_source start marks (source + 1) ≡ from_source start marks source
  told h = sym (one_more true h)

  -- another isn't
  pub untold : int_lt start time ≡ false → from_source start marks (source + 1) ≡ from_source start marks source
  untold h = sym (one_more false h)

-- behind the last source there are none
pub none_behind : (start : ℤ) (marks : List ℤ) (source : ℕ) → length marks ≤ source → from_source start marks source ≡ []
none_behind start marks source h = ap (openers start source) (drop_all source marks h)

-- a time has 64 bits
pub time_fits : (t : ℤ) → IsTime t → SFits w64 t
time_fits t is = fits_signed_from_abs w64 t (omega (arith, ints, is.low, is.high))
