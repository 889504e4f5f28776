-- What a schema and the settings of a lawful header hold, part by part.
use Rattle.std.proofs.Common.{leb, ◌≡◌, ◌<◌, ◌≤◌, true, ◌&&◌, ℕ, zero, suc, [], length, false, refl, arith}
use Rattle.std.specs.Prelude.{nat_eq}
use Rattle.std.proofs.lemmas.Bool.{leb-true, and_parts}
use Rattle.wsm_record.specs.Modes.{may_write}
use Rattle.wsm_record.specs.Name.{is_between}
use Rattle.wsm_record.specs.Schema.{Declared, is_name_list, are_fields_after, is_source_count, are_sources, is_schema}
use Rattle.wsm_program.specs.Program.{is_span, is_shape, is_timely}
use Rattle.wsm_bytecode.specs.Parts.{Settings}

pub record SchemaParts (s : Declared) : Type 0 where
  pub keys : is_name_list s.keys ≡ true
  pub few : leb (length s.fields) 16 ≡ true
  pub fields : are_fields_after [] s.fields ≡ true
  pub sources : are_sources s.sources ≡ true

pub schema_parts : (s : Declared) → is_schema s ≡ true → SchemaParts s
unfolding is_schema
schema_parts s h =
    let a = and_parts (is_name_list s.keys) (leb (length s.fields) 16 && (are_fields_after [] s.fields && are_sources s.sources)) h in
    let b = and_parts (leb (length s.fields) 16) (are_fields_after [] s.fields && are_sources s.sources) a.1 in
    let c = and_parts (are_fields_after [] s.fields) (are_sources s.sources) b.1 in
    record { keys = a.0; few = b.0; fields = c.0; sources = c.1 }

pub record SettingsParts (s : Settings) : Type 0 where
  pub timely : is_timely s.from_window s.shape ≡ true
  pub sources : are_sources s.sources ≡ true
  pub shape : is_shape s.shape ≡ true
  pub early : is_span s.early ≡ true
  pub late : is_span s.late ≡ true
  pub form : may_write s.mode s.form ≡ true

-- a number of sources that there are is between 2 and 16
not_none : (n : ℕ) → nat_eq (suc n) 0 ≡ false
not_none n = grind arith

pub many_sources : (n : ℕ) → is_source_count (suc n) ≡ true → is_between 2 16 (suc n) ≡ true
many_sources n h = rw (not_none n) at h

pub count_of_many : (n : ℕ) → is_between 2 16 n ≡ true → is_source_count n ≡ true
count_of_many zero h = refl
count_of_many (suc n) h = rw (not_none n) h

pub few_sources : (n : ℕ) → is_source_count n ≡ true → n < 256
few_sources zero h = omega arith
few_sources (suc n) h =
    let le : suc n ≤ 16 = leb-true _ _ (and_parts (leb 2 (suc n)) (leb (suc n) 16) (many_sources n h)).1 in
    omega arith
