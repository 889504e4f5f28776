-- What is saved of lines beside the engine.
use Rattle.std.proofs.Common.{◌≡◌, ◌∙◌, ◌+◌, ◌<◌, ◌-◌, ℕ, suc, List, [], ◌∷◌, length, Option, None, Some, true, refl, ap, arith}
use Rattle.std.proofs.lemmas.Bool.{lt-ltb}
use Rattle.std.specs.Prelude.{◌&&◌, Bool, nat_lt}
use Rattle.wsm_record.specs.Schema.{Declared}
use Rattle.wsm_lines.specs.declared.source.Source.{Source}
use Rattle.wsm_turns.specs.declared.clocks.Clocks.{Clocks}
use Rattle.wsm_turns.specs.Named.{Knows, Named}
use Rattle.wsm_log_text.specs.LogText.{said}

-- ---- names of clocks

-- where no names are kept none have come
pub no_names : (named : Option ℕ) (o : Option Named) (names : List (List ℕ)) → Knows named o names → named ≡ None → names ≡ []
no_names None None names knows is = knows
no_names None (Some n) names knows is = absurd knows
no_names (Some most) o names knows is = absurd cc

-- those that are kept are known
abbrev pub named_of : Option Named → Option ℕ
named_of None = None
named_of (Some n) = Some n.most

abbrev pub names_in : Option Named → List (List ℕ)
names_in None = []
names_in (Some n) = n.names

pub known_itself : (o : Option Named) → Knows (named_of o) o (names_in o)
known_itself None = refl
known_itself (Some n) = refl

-- ---- RECORDS that are left

pub some_left : (left whole gone : ℕ) → left ≡ whole - gone → 0 < left → gone < whole
some_left left whole gone is some = omega (arith, is, some)

-- as many are left behind the events that stand for others as behind these
pub left_alike : (records whole gone other : ℕ) → records + gone ≡ whole + other → records - other ≡ whole - gone
left_alike records whole gone other same = omega (arith, same)

-- ---- whether it can be said what lines come to

pub said_each : (s : Source) (clocks : Option Clocks) (d : Declared) (before : List (List ℕ)) → length (said s clocks d before) ≡ length before
said_each s clocks d [] = refl
said_each s clocks d (line ∷ before) = ap suc (said_each s clocks d before)

-- where there is a line, and some are left
pub some_and_some : (lines came left some : ℕ) → came ≡ lines → left ≡ some → 0 < came → 0 < left → (nat_lt 0 lines && nat_lt 0 some) ≡ true
some_and_some lines came left some is_came is_left one more =
    let there : nat_lt 0 lines ≡ true = lt-ltb 0 lines (omega (arith, is_came, one)) in
    let room : nat_lt 0 some ≡ true = lt-ltb 0 some (omega (arith, is_left, more)) in
    ap (λ (b : Bool). b && nat_lt 0 some) there ∙ room
