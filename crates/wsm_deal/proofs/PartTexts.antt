-- The text of a part's rows, row by row, and what is handed on of it.
use Rattle.std.proofs.Common.{◌≡◌, ◌∷◌, ◌++◌, ◌≤◌, [], ℕ, List, Bool, Option, true, refl, sym, ap, ◌∙◌, length, append_assoc, append-nil, length-append, arith, subst}
use Rattle.std.proofs.Math.Seq.{take-append_seam}
use Rattle.std.proofs.lemmas.List.{take-append-le}
use Rattle.std.specs.Prelude.{if◌then◌else◌}
use Rattle.std.specs.Io.KnownBytes.{Appends}
use Rattle.csv.specs.Writing.{default_writer, row_text}
use Rattle.wsm_csv.specs.Device.{TakesPart}
use Rattle.wsm_csv.proofs.Written.{Appends-join, TakesPart-last}
use Rattle.wsm_deal.specs.PartText.{is_begun, mark_before, part_text, rows_text}
use Rattle.wsm_deal.specs.Parts.{Has}
use Rattle.wsm_deal.specs.declared.part.Part.{Part}

pub rows_more : (rows : List (List (List ℕ))) (row : List (List ℕ)) → rows_text (rows ++ row ∷ []) ≡ rows_text rows ++ row_text default_writer row
unfolding rows_text
rows_more [] row = append-nil (row_text default_writer row)
rows_more (r ∷ rs) row = rw (rows_more rs row) (sym (append_assoc (row_text default_writer r) (rows_text rs) (row_text default_writer row)))

-- what a row adds to the text
abbrev pub added : Bool → List (List ℕ) → List ℕ
added begun row = (if begun then [] else mark_before row) ++ row_text default_writer row

pub part_more : (rows : List (List (List ℕ))) (row : List (List ℕ)) → part_text (rows ++ row ∷ []) ≡ part_text rows ++ added (is_begun rows) row
unfolding rows_text
part_more [] row = ap (λ (t : List ℕ). mark_before row ++ t) (append-nil (row_text default_writer row))
part_more (r ∷ rs) row =
    ap (λ (t : List ℕ). mark_before r ++ t) (rows_more (r ∷ rs) row)
    ∙ sym (append_assoc (mark_before r) (rows_text (r ∷ rs)) (row_text default_writer row))

pub begun_more : (rows : List (List (List ℕ))) (row : List (List ℕ)) → is_begun (rows ++ row ∷ []) ≡ true
begun_more [] row = refl
begun_more (r ∷ rs) row = refl

module _ {D : Type 0} (taken : D → Option (List ℕ)) where
  -- a row more is kept
  pub Has-more : (old : Option (List ℕ)) (rows : List (List (List ℕ))) (row : List (List ℕ)) (p q : Part D)
      → Has taken old rows p → q.out ≡ p.out → q.begun ≡ true → q.text.items ≡ p.text.items ++ added p.begun row → Has taken old (rows ++ row ∷ []) q
  Has-more old rows row p q has out begun text = record {
    given = has.given;
    handed = subst (λ (d : D). Appends old (taken d) has.given) (sym out) has.handed;
    text =
        ap (λ (t : List ℕ). has.given ++ t) (text ∙ ap (λ (b : Bool). p.text.items ++ added b row) has.begun)
        ∙ sym (append_assoc has.given p.text.items (added (is_begun rows) row))
        ∙ ap (λ (t : List ℕ). t ++ added (is_begun rows) row) has.text
        ∙ sym (part_more rows row);
    begun = begun ∙ sym (begun_more rows row);
  }

  -- the same where the text was begun before
  pub Has-added : (old : Option (List ℕ)) (rows : List (List (List ℕ))) (row : List (List ℕ)) (p m q : Part D)
      → Has taken old rows p → m.out ≡ p.out → m.begun ≡ true → m.text.items ≡ p.text.items ++ (if p.begun then [] else mark_before row)
      → q.out ≡ m.out → q.begun ≡ m.begun → q.text.items ≡ m.text.items ++ row_text default_writer row → Has taken old (rows ++ row ∷ []) q
  Has-added old rows row p m q has out begun first same also text =
      Has-more old rows row p q has (same ∙ out) (also ∙ begun)
      (text ∙ ap (λ (t : List ℕ). t ++ row_text default_writer row) first ∙ append_assoc p.text.items (if p.begun then [] else mark_before row) (row_text default_writer row))

  -- what was kept is handed on
  pub Has-handed : (old : Option (List ℕ)) (rows : List (List (List ℕ))) (p q : Part D)
      → Has taken old rows p → Appends (taken p.out) (taken q.out) p.text.items → q.text.items ≡ [] → q.begun ≡ p.begun → Has taken old rows q
  Has-handed old rows p q has on empty begun = record {
    given = has.given ++ p.text.items;
    handed = Appends-join old (taken p.out) (taken q.out) has.given p.text.items has.handed on;
    text = ap (λ (t : List ℕ). (has.given ++ p.text.items) ++ t) empty ∙ append-nil (has.given ++ p.text.items) ∙ has.text;
    begun = begun ∙ has.begun;
  }

  -- the device took a beginning of the text
  pub Has-part : (old : Option (List ℕ)) (rows : List (List (List ℕ))) (p : Part D) → Has taken old rows p → TakesPart old (taken p.out) (part_text rows)
  Has-part old rows p has =
      let le : length has.given ≤ length (has.given ++ p.text.items) = simp (length-append) (omega arith) in
      subst (λ (t : List ℕ). TakesPart old (taken p.out) t) has.text
      (length has.given, le, rw (take-append_seam has.given p.text.items) has.handed)

  -- the same where a beginning of what was kept is handed on
  pub Has-broken : (old : Option (List ℕ)) (rows : List (List (List ℕ))) (p : Part D) (new : Option (List ℕ)) → Has taken old rows p → TakesPart (taken p.out) new p.text.items → TakesPart old new (part_text rows)
  Has-broken old rows p new has part =
      subst (λ (t : List ℕ). TakesPart old new t) has.text (TakesPart-last old (taken p.out) new has.given p.text.items has.handed part)

  -- it took all where nothing is kept
  pub Has-all : (old : Option (List ℕ)) (rows : List (List (List ℕ))) (p : Part D) → Has taken old rows p → p.text.items ≡ [] → Appends old (taken p.out) (part_text rows)
  Has-all old rows p has empty =
      let all : has.given ≡ part_text rows = sym (append-nil has.given) ∙ ap (λ (t : List ℕ). has.given ++ t) (sym empty) ∙ has.text in
      subst (λ (t : List ℕ). Appends old (taken p.out) t) all has.handed

-- a beginning of the text is one of the text of a row more
pub part-longer : (old new : Option (List ℕ)) (rows : List (List (List ℕ))) (row : List (List ℕ)) → TakesPart old new (part_text rows) → TakesPart old new (part_text (rows ++ row ∷ []))
part-longer old new rows row (n, within, taken) =
    let le : n ≤ length (part_text rows) = within in
    rw (part_more rows row) (n, simp (length-append) (omega arith), rw (take-append-le n (part_text rows) (added (is_begun rows) row) le) taken)
