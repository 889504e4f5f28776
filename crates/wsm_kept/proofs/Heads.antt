-- A row that is written as a head is read as that.
use Rattle.std.proofs.Common.{◌≡◌, ℕ, List, [], ◌∷◌, ◌++◌, Bool, true, false, Option, Some, None, sym, ap, ◌∙◌, unwrap_or}
use Rattle.csv.specs.Machine.{Read, next_record}
use Rattle.csv.specs.Reading.{default_config}
use Rattle.csv.specs.Writing.{default_writer, read_back, row_text}
use Rattle.csv.specs.declared.parser.State.TheVariants as st
use Rattle.csv.proofs.RoundTrip.{read-write}
use Rattle.wsm_kept.specs.declared.end.KeepEnd.{KeepEnd}
use Rattle.wsm_kept.specs.declared.end.KeepEnd.TheVariants as ends
use Rattle.wsm_kept.specs.declared.head.Head.{Head}
use Rattle.wsm_kept.specs.Ends.{FirstEnds, HeadEnds}
use Rattle.wsm_kept.specs.Head.{IsSaid, head_cells, head_text, is_tagged}
use Rattle.wsm_kept.specs.Kept.{Cells}
use Rattle.wsm_kept.proofs.Back.{head_row_text}

pub some_same : (xs ys : List ℕ) → Some xs ≡ Some ys → xs ≡ ys
some_same xs ys e = ap (λ (o : Option (List ℕ)). unwrap_or o xs) e

pub none_some : (xs : List ℕ) → None ≡ Some xs → ⊥
none_some xs e = cc e

no_true : false ≡ true → ⊥
no_true e = cc e

-- texts of rows that are the same are read back as the same
same_read : (row other : Cells) → row_text default_writer row ≡ row_text default_writer other → read_back row ≡ read_back other
same_read row other e =
    let p : Read = (read_back row, st.StartRecord, []) in
    let q : Read = (read_back other, st.StartRecord, []) in
    let is : p ≡ q = ap (λ (z : Option Read). unwrap_or z p)
    (sym (read-write row []) ∙ ap (λ (t : List ℕ). next_record default_config st.StartRecord [] [] (t ++ [])) e ∙ read-write other []) in
    ap (λ (z : Read). z.0) is

pub head_row : (row : Cells) (h : Head) → IsSaid h → row_text default_writer row ≡ head_text h → row ≡ head_cells h
head_row [] h said e = absurd (no_true (ap is_tagged (same_read [] (head_cells h) (e ∙ sym (head_row_text h said)))))
head_row (cell ∷ cells) h said e = same_read (cell ∷ cells) (head_cells h) (e ∙ sym (head_row_text h said))

-- so it begins as one
pub head_tagged : (row : Cells) (h : Head) → IsSaid h → row_text default_writer row ≡ head_text h → is_tagged row ≡ true
head_tagged row h said e = ap is_tagged (head_row row h said e)

pub not_tagged : (row : Cells) (h : Head) (b : Bool) → IsSaid h → row_text default_writer row ≡ head_text h → b ≡ is_tagged row → b ≡ false → ⊥
not_tagged row h b said text is off = no_true (sym off ∙ is ∙ head_tagged row h said text)

pub same_numbers : (h : Head) (a b c d e f : ℕ) → a ≡ h.rows → b ≡ h.lines → c ≡ h.kept → d ≡ h.own → e ≡ h.records → f ≡ h.sum
    → record { rows = a; lines = b; kept = c; own = d; records = e; sum = f } ≡ h
same_numbers h a b c d e f ra rb rc rd re rf = λ i. record { rows = ra i; lines = rb i; kept = rc i; own = rd i; records = re i; sum = rf i }

pub first_ends : (sum : ℕ) (row : Cells) (end : KeepEnd) → HeadEnds row end → FirstEnds sum row end
first_ends sum row ends.BadHead h = (h.0, λ head said text. absurd (h.1 head said text))
first_ends sum row ends.OtherQuery h = absurd h
first_ends sum row ends.OtherRows h = absurd h
first_ends sum row ends.Gone h = absurd h
first_ends sum row ends.FewerLines h = absurd h
first_ends sum row ends.ReadFailed h = absurd h
first_ends sum row ends.Memory h = tt
first_ends sum row ends.WriteFailed h = absurd h
