-- What sinks have, one more at a time.
use Rattle.std.proofs.Common.{◌≡◌, ◌⊎◌, inl, inr, ◌≤◌, ◌<◌, ◌+◌, ℕ, List, All, Any, IfNone, IfSome, IsSomeAnd, MatchOption, Option, Some, None, length, min, take, get_or, refl, sym, subst, arith}
use Rattle.std.proofs.lemmas.Bool.{cases_lt}
use Rattle.std.proofs.lemmas.List.{nil_from_length, take_all}
use Rattle.std.proofs.lemmas.List.Elements.{All-more, All-nil, All-weaker}
use Rattle.wsm_live_files.specs.declared.taken.Taken.{Taken}
use Rattle.wsm_live_files.specs.declared.taken.Told.{Told}
use Rattle.wsm_live_loop.specs.Sinks.{HasAtLeast, HasCount, IsLeast}

lesser : (o : Option Told) (a b : ℕ) → b ≤ a → IfSome o (λ told. a ≤ told.count) → IfSome o (λ told. b ≤ told.count)
lesser None a b less h = tt
lesser (Some told) a b less h = omega (arith, less, h)

has : (o : Option Told) (count least : ℕ) → least ≤ count → IsSomeAnd o (λ told. told.count ≡ count) → IfSome o (λ told. least ≤ told.count)
has None count least less is = tt
has (Some told) count least less is = omega (arith, less, is)

-- of the first sinks: the least is that of one
pub record Looked (least : Option ℕ) (sinks : List Taken) (i : ℕ) : Type 0 where
  pub none : IfNone least (i ≡ 0)
  pub each : IfSome least (λ n. All (HasAtLeast n) (take i sinks))
  pub one : IfSome least (λ n. Any (HasCount n) sinks)

pub none_yet : (sinks : List Taken) → Looked None sinks 0
none_yet sinks = record { none = refl; each = tt; one = tt }

module _ (sinks : List Taken) (i : ℕ) (x : Taken) (count : ℕ) (within : i < length sinks) (is : x ≡ get_or sinks i x) (told : HasCount count x) where
  of_it : (new : ℕ) → new ≡ count → Any (HasCount new) sinks
  of_it new same = (i, x, within, sym is, subst (λ n. HasCount n x) (sym same) told)

  at_least : (new : ℕ) → new ≤ count → HasAtLeast new (get_or sinks i x)
  at_least new less = subst (HasAtLeast new) is (has x.told count new less told)

  of_either : (least new : ℕ) → Any (HasCount least) sinks → new ≡ min least count → (least < count) ⊎ (count ≤ least) → Any (HasCount new) sinks
  of_either least new old same (inl less) = let is : least ≡ new = omega (arith, same, less) in subst (λ n. Any (HasCount n) sinks) is old
  of_either least new old same (inr less) = of_it new (omega (arith, same, less))

  pub one_more : (least : Option ℕ) (new : ℕ) → Looked least sinks i → MatchOption least (new ≡ count) (λ least. new ≡ min least count) → Looked (Some new) sinks (i + 1)
  one_more None new before same = record {
    none = tt;
    each = All-more (HasAtLeast new) sinks i x within
        (subst (λ n. All (HasAtLeast new) (take n sinks)) (sym before.none) (All-nil (HasAtLeast new)))
        (at_least new (omega (arith, same)));
    one = of_it new same;
  }
  one_more (Some least) new before same = record {
    none = tt;
    each = All-more (HasAtLeast new) sinks i x within
        (All-weaker (HasAtLeast least) (HasAtLeast new) (λ y h. lesser y.told least new (omega (arith, same)) h) (take i sinks) before.each)
        (at_least new (omega (arith, same)));
    one = of_either least new before.one same (cases_lt least count);
  }

-- of all
pub all_looked : (least : Option ℕ) (sinks : List Taken) (i : ℕ) → length sinks ≤ i → Looked least sinks i → IsLeast least sinks
all_looked None sinks i end h = nil_from_length sinks (omega (arith, end, h.none))
all_looked (Some least) sinks i end h = (subst (All (HasAtLeast least)) (take_all i sinks end) h.each, h.one)
