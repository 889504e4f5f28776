-- What a section reads of inputs that fit the header is what its expressions mean.
use Rattle.std.proofs.Common.{◌≡◌, ℕ, zero, suc, ◌+◌, true, false, ◌||◌, not, cond, List, [], ◌∷◌, map, Some, None, Ok, refl, sym, ap, ◌∙◌, arith}
use Rattle.std.proofs.Math.Numerals.{one-add}
use Rattle.std.specs.Prelude.{bytes_eq, slice_get}
use Rattle.std.specs.List.{list_all}
use Rattle.std.proofs.lemmas.Bool.{and_parts}
use Rattle.std.proofs.lemmas.Option.{same_Some}
use Rattle.wsm_record.specs.declared.event.Value.{Value}
use Rattle.wsm_record.specs.declared.words.Kind.{Kind}
use Rattle.wsm_record.specs.Name.{is_among}
use Rattle.wsm_fold.specs.Fold.{is_of_kind, are_of_kinds}
use Rattle.wsm_program.specs.declared.SectionId.TheVariants.{Where, Update, Fire}
use Rattle.wsm_program.specs.declared.program.Costs.{Costs}
use Rattle.wsm_machine.specs.Inputs.{Inputs, is_of_field, are_of_fields}
use Rattle.wsm_machine.specs.InRange.{is_word}
use Rattle.wsm_machine.specs.Step.{setting}
use Rattle.wsm_record.specs.Schema.{FieldType, DeclaredField}
use Rattle.wsm_query.specs.Tree.{Name, Query}
use Rattle.wsm_check.specs.Names.{field_names, field_place, type_of}
use Rattle.wsm_record.specs.declared.words.CellType.{CellType}
use Rattle.wsm_record.specs.Types.{kind_type}
use Rattle.wsm_check.specs.Types.{declared_ty, field_ty}
use Rattle.wsm_check.specs.declared.types.Around.{Around}
use Rattle.wsm_check.specs.declared.types.Around.TheVariants.{InWhere, InColumn, InAggregate}
use Rattle.wsm_check.specs.Aggregates.{Acc, accumulators}
use Rattle.wsm_compiler.specs.Meaning.{on_record, on_accumulators}
use Rattle.wsm_compiler.specs.Program.{program_stating}
use Rattle.wsm_compiler.specs.Bounded.{kept}
use Rattle.wsm_compiler.specs.Runs.{of_ty, Serves, ServesAccs}
use Rattle.wsm_compiler.specs.Sections.{record_fits, pane_fits}
use Rattle.wsm_machine.proofs.FittingStacks.{no}
use Rattle.wsm_compiler.proofs.Parts.{none≢some}
use Rattle.wsm_compiler.proofs.ExpressionRanges.{field_is}
use Rattle.wsm_compiler.proofs.KnownFields.{declared, is_fine, not_in_column, in_column}

-- ---- fields

has_type : (n : ℕ) (ty : FieldType) (v : Value) → is_of_field ty v ≡ true → of_ty (declared_ty n ty) (Some v) ≡ true
has_type n ty v h = grind arith

-- the value at the place of the first field of a name
record Read (ds : List DeclaredField) (vs : List Value) (x : Name) : Type 0 where
  value : Value
  is : slice_get vs (field_place ds x) ≡ Some value
  has : (n : ℕ) → of_ty (declared_ty n (type_of x ds)) (Some value) ≡ true

read_at : (ds : List DeclaredField) (vs : List Value) (x : Name) → is_among x (field_names ds) ≡ true → are_of_fields ds vs ≡ true → Read ds vs x
read_at [] vs x h l = no h
read_at (d ∷ ds) [] x h l = no l
read_at (d ∷ ds) (v ∷ vs) x h l =
    let p = and_parts (is_of_field d.type v) (are_of_fields ds vs) l in
    elim (bytes_eq x d.name) as (λ b. bytes_eq x d.name ≡ b → (b || is_among x (field_names ds)) ≡ true → Read (d ∷ ds) (v ∷ vs) x) [
      | true ↦ λ e h. record {
        value = v;
        is = ap (λ b. slice_get (v ∷ vs) (cond (not b) (1 + field_place ds x) 0)) e;
        has = λ n. ap (λ b. of_ty (declared_ty n (cond b d.type (type_of x ds))) (Some v)) e ∙ has_type n d.type v p.0;
      }
      | false ↦ λ e h.
          let r = read_at ds vs x h p.1 in
          record {
            value = r.value;
            is = ap (λ b. slice_get (v ∷ vs) (cond (not b) (1 + field_place ds x) 0)) e ∙ ap (slice_get (v ∷ vs)) (one-add (field_place ds x)) ∙ r.is;
            has = λ n. ap (λ b. of_ty (declared_ty n (cond b d.type (type_of x ds))) (Some r.value)) e ∙ r.has n;
          }
    ] refl h

-- a value of 64 bits
word_at : (vs : List Value) (f : ℕ) (v : Value) → list_all is_word vs ≡ true → slice_get vs f ≡ Some v → is_word v ≡ true
word_at [] f v h e = none≢some e
word_at (x ∷ vs) zero v h e = ap is_word (sym (same_Some x v e)) ∙ (and_parts (is_word x) (list_all is_word vs) h).0
word_at (x ∷ vs) (suc f) v h e = word_at vs f v (and_parts (is_word x) (list_all is_word vs) h).1 e

word_kept : (v : Value) → is_word v ≡ true → kept (Some v) ≡ Some v
word_kept v h = grind arith

pub field_read : (q : Query) (around : Around) (vs : List Value) → are_of_fields q.fields vs ≡ true → list_all is_word vs ≡ true → (x : Name) (t : CellType) → field_ty q around x ≡ Ok t →
    (v : Value) × (slice_get vs (field_place q.fields x) ≡ Some v) × (of_ty t (Some v) ≡ true) × (slice_get vs (field_place q.fields x) ≡ Some v) × (kept (Some v) ≡ Some v)
field_read q around vs fit words x t h =
    let r = read_at q.fields vs x (declared q around x t h) fit in
    (r.value, r.is, ap (λ u. of_ty u (Some r.value)) (sym (field_is q around x t h)) ∙ r.has (field_place q.fields x), r.is, word_kept r.value (word_at vs (field_place q.fields x) r.value words r.is))

-- ---- accumulators

of_kind : (kind : Kind) (v : Value) → is_of_kind kind v ≡ true → of_ty (kind_type kind) (Some v) ≡ true
of_kind kind v h = grind arith

held_at : (accs : List Acc) (vs : List Value) (j : ℕ) (acc : Acc) → are_of_kinds (map (λ acc. acc.kind) accs) vs ≡ true → slice_get accs j ≡ Some acc → (v : Value) × (slice_get vs j ≡ Some v) × (of_ty (kind_type acc.kind) (Some v) ≡ true)
held_at [] vs j acc h e = none≢some e
held_at (x ∷ accs) [] j acc h e = no h
held_at (x ∷ accs) (v ∷ vs) zero acc h e =
    let p = and_parts (is_of_kind x.kind v) (are_of_kinds (map (λ acc. acc.kind) accs) vs) h in
    (v, refl, ap (λ z. of_ty (kind_type z.kind) (Some v)) (sym (acc_is x acc e)) ∙ of_kind x.kind v p.0)
  where
    acc_is : (x y : Acc) → Some x ≡ Some y → x ≡ y
    acc_is x y h = ap (λ o. elim o [ None ↦ x | Some z ↦ z ]) h
held_at (x ∷ accs) (v ∷ vs) (suc j) acc h e = held_at accs vs j acc (and_parts (is_of_kind x.kind v) (are_of_kinds (map (λ acc. acc.kind) accs) vs) h).1 e

-- ---- sections

module _ (q : Query) (b : Costs) (d : Inputs) (fit : record_fits q d ≡ true) where
  pub serves_where : Serves (setting (program_stating q b) Where d) q InWhere (on_record d.key d.values)
  serves_where = record {
    field = λ x t h. field_read q InWhere d.values (and_parts (are_of_fields q.fields d.values) (list_all is_word d.values) fit).0 (and_parts (are_of_fields q.fields d.values) (list_all is_word d.values) fit).1 x t h;
    fields_stand = λ f h. refl;
    key = refl;
    count = λ h. no (ap in_column h);
    count_stands = λ h. no (ap in_column h);
    accs_stand = λ a h. no (ap in_column h);
  }

  pub serves_update : Serves (setting (program_stating q b) Update d) q InAggregate (on_record d.key d.values)
  serves_update = record {
    field = λ x t h. field_read q InAggregate d.values (and_parts (are_of_fields q.fields d.values) (list_all is_word d.values) fit).0 (and_parts (are_of_fields q.fields d.values) (list_all is_word d.values) fit).1 x t h;
    fields_stand = λ f h. refl;
    key = refl;
    count = λ h. no (ap in_column h);
    count_stands = λ h. no (ap in_column h);
    accs_stand = λ a h. no (ap in_column h);
  }

module _ (q : Query) (b : Costs) (d : Inputs) where
  pub serves_fire : Serves (setting (program_stating q b) Fire d) q InColumn (on_accumulators d.key d.count d.accs)
  serves_fire = record {
    field = λ x t h. no (sym (not_in_column (is_among x (field_names q.fields)) (declared_ty (field_place q.fields x) (type_of x q.fields))) ∙ ap is_fine h);
    fields_stand = λ f h. absurd (h refl);
    key = refl;
    count = λ h. refl;
    count_stands = λ h. refl;
    accs_stand = λ a h. refl;
  }

  pub serves_accs : pane_fits q d ≡ true → ServesAccs (setting (program_stating q b) Fire d) InColumn (on_accumulators d.key d.count d.accs) 0 (accumulators q)
  serves_accs fit e j acc get = grind (arith, held_at)
