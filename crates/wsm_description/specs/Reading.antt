-- What stands at a key, by the type that the key asks for.
use Rattle.std.specs.Prelude.{ℕ, ℤ, pos, negsuc, List, [], ◌∷◌, Bool, ◌&&◌, ◌||◌, ◌==◌, not, nat_lt, if◌then◌else◌, Option, Some, None, Result, Ok, Err}
use Rattle.toml.specs.Data.{Data, Members, as_str, as_integer, as_table, get_member}
use Rattle.wsm_description.specs.declared.reading.Mark.{Mark}
use Rattle.wsm_description.specs.declared.reading.Mark.TheVariants.{Separator, Sign}
use Rattle.wsm_description.specs.declared.refusal.SourceFault.{SourceFault}
use Rattle.wsm_description.specs.declared.refusal.SourceFault.TheVariants.{MissingKey, BadType, BadRange, BadWord, Conflict}
use Rattle.wsm_description.specs.declared.refusal.Refusal.{Refusal}
use Rattle.wsm_description.specs.Refusals.{refused, on_ok}

-- a value of the type that is asked for
abbrev pub typed : {A : Type 0} → Option A → Result (Option A) SourceFault
typed None = Err BadType
typed (Some a) = Ok (Some a)

-- what stands at a key, or that there is nothing
abbrev pub read_as : {A : Type 0} → (Data → Option A) → Option Data → Result (Option A) SourceFault
read_as f None = Ok None
read_as f (Some d) = typed (f d)

-- the fault at a key, with its name
abbrev pub at_key : {A : Type 0} → List ℕ → List ℕ → Result A SourceFault → Result A Refusal
at_key section key (Ok a) = Ok a
at_key section key (Err fault) = refused fault section key

abbrev pub required : {A : Type 0} → List ℕ → List ℕ → Option A → Result A Refusal
required section key None = refused MissingKey section key
required section key (Some a) = Ok a

abbrev pub text_at : List ℕ → List ℕ → Members → Result (Option (List ℕ)) Refusal
text_at section key ms = at_key section key (read_as as_str (get_member key ms))

abbrev pub required_text : List ℕ → List ℕ → Members → Result (List ℕ) Refusal
required_text section key ms = on_ok (text_at section key ms) (required section key)

abbrev pub table_at : List ℕ → List ℕ → Members → Result (Option Members) Refusal
table_at section key ms = at_key section key (read_as as_table (get_member key ms))

abbrev pub required_table : List ℕ → List ℕ → Members → Result Members Refusal
required_table section key ms = on_ok (table_at section key ms) (required section key)

-- ---- numbers

abbrev pub natural : ℤ → Option ℕ
natural (pos n) = Some n
natural (negsuc n) = None

abbrev pub within : ℕ → ℕ → Option ℕ → Result (Option ℕ) SourceFault
within least most None = Err BadRange
within least most (Some n) = if nat_lt n least then Err BadRange else (if nat_lt most n then Err BadRange else Ok (Some n))

-- a number from the least to the most
abbrev pub number_in : ℕ → ℕ → Result (Option ℤ) SourceFault → Result (Option ℕ) SourceFault
number_in least most (Err fault) = Err fault
number_in least most (Ok None) = Ok None
number_in least most (Ok (Some z)) = within least most (natural z)

abbrev pub number_at : List ℕ → List ℕ → ℕ → ℕ → Members → Result (Option ℕ) Refusal
number_at section key least most ms = at_key section key (number_in least most (read_as as_integer (get_member key ms)))

-- ---- characters

-- between cells stands an ASCII character that is no quote and ends no line; among digits one that is no digit and no minus
abbrev pub takes_mark : Mark → ℕ → Bool
takes_mark Separator b = nat_lt b 128 && not (b == 34) && not (b == 13) && not (b == 10)
takes_mark Sign b = nat_lt b 128 && not (b == 45) && (nat_lt b 48 || nat_lt 57 b)

abbrev pub mark_of : Mark → List ℕ → Result (Option ℕ) SourceFault
mark_of kind [] = Err BadWord
mark_of kind (b ∷ []) = if takes_mark kind b then Ok (Some b) else Err BadWord
mark_of kind (b ∷ c ∷ bs) = Err BadWord

abbrev pub mark_in : Mark → Result (Option (List ℕ)) SourceFault → Result (Option ℕ) SourceFault
mark_in kind (Err fault) = Err fault
mark_in kind (Ok None) = Ok None
mark_in kind (Ok (Some text)) = mark_of kind text

abbrev pub mark_at : List ℕ → List ℕ → Mark → Members → Result (Option ℕ) Refusal
mark_at section key kind ms = at_key section key (mark_in kind (read_as as_str (get_member key ms)))

-- ---- keys that may not be there

abbrev pub none_there : {A : Type 0} → List ℕ → List ℕ → Option A → Result (Unit {0}) Refusal
none_there section key None = Ok tt
none_there section key (Some d) = refused Conflict section key

abbrev pub absent : List ℕ → List ℕ → Members → Result (Unit {0}) Refusal
absent section key ms = none_there section key (get_member key ms)
