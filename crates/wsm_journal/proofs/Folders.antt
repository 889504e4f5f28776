-- What power cuts leave of a folder that is known, and what it holds, behind each way to change its journal.
use Rattle.std.proofs.Common.{◌≡◌, ◌∙◌, inl, inr, ⊎_elim, ◌⊎◌, ℕ, ◌+◌, ◌-◌, ◌^◌, ◌<◌, ◌||◌, map, slice_get, List, [], ◌∷◌, ◌++◌, drop, length, Bool, true, false, Option, Some, None, option_map, refl, sym, ap, arith, subst, append-nil}
use Rattle.std.proofs.lemmas.Bool.{eq-eqb}
use Rattle.std.proofs.lemmas.List.{drop_all}
use Rattle.wsm_journal.specs.declared.reading.Behind.TheVariants.{Damage}
use Rattle.wsm_journal.specs.Text.{Entry, IsRecord, AreRecords, are_rows, entry_sum, is_position, journal_text, record_text, last_number, follows}
use Rattle.wsm_journal.specs.Reading.{Reading, read_journal}
use Rattle.wsm_journal.specs.Laws.{IsBeforeOrAfter, read_as}
use Rattle.wsm_journal.specs.Folder.{EachMoment, File, Folder, LeavesOnly, Append, Sync, CreateNext, WriteNext, SyncNext, Rename, SyncFolder, after, append_calls, bytes_of, file_with, is_one_left, may_be_left, on_disk, settled, written}
use Rattle.wsm_journal.specs.Calls.{HasSameNames, IfKnown, MayLeave, MayLeaveIn, called, without_next}
use Rattle.wsm_journal.specs.Seen.{entry_seen}
use Rattle.wsm_journal.specs.declared.records.Record.{Record}
use Rattle.wsm_journal.specs.Kept.{HasOneMore, IsLeftOr, IsLeftOrRead, IsSettled, IsSettledAt, MayLeaveSynced, entry_behind, next_number, records_in, with_next}
use Rattle.wsm_journal.proofs.Journals.{one_behind, written_read}
use Rattle.wsm_journal.proofs.Moments.{all_left, cut_append, first_only}

-- ---- the file that is to take the name

pub next_leaves : (old new : Option Folder) → HasSameNames old new → (left : List ℕ) → MayLeave new left → MayLeave old left
next_leaves None None same left may = may
next_leaves None (Some e) same left may = absurd (cc same)
next_leaves (Some d) None same left may = absurd (cc same)
next_leaves (Some d) (Some e) same left may =
    let journal : e.journal ≡ d.journal = ap (λ (o : Option Folder). journal_of o d.journal) same in
    let named : e.named ≡ d.named = ap (λ (o : Option Folder). named_of o d.named) same in
    sym (ap (λ f. may_be_left f left || is_one_left e.named left) journal ∙ ap (λ ns. may_be_left d.journal left || is_one_left ns left) named) ∙ may
  where
    journal_of : Option Folder → File → File
    journal_of None f = f
    journal_of (Some x) f = x.journal

    named_of : Option Folder → List File → List File
    named_of None ns = ns
    named_of (Some x) ns = x.named

pub created_names : (old : Option Folder) → HasSameNames old (called CreateNext old)
created_names None = refl
created_names (Some d) = refl

pub written_names : (bytes : List ℕ) (old : Option Folder) → HasSameNames old (called (WriteNext bytes) old)
written_names bytes None = refl
written_names bytes (Some d) = refl

pub synced_names : (old : Option Folder) → HasSameNames old (called SyncNext old)
synced_names None = refl
synced_names (Some d) = refl

pub next_done : (bytes : List ℕ) (old : Option Folder) → called SyncNext (called (WriteNext bytes) (called CreateNext old)) ≡ option_map (with_next (file_with bytes [])) old
next_done bytes None = refl
next_done bytes (Some d) = refl

-- what may be left at a call that changes that file alone
pub in_next : (old mid new : Option Folder) → HasSameNames old mid → HasSameNames mid new → (left : List ℕ) → MayLeave mid left ⊎ MayLeave new left → MayLeave old left
in_next old mid new first second left (inl may) = next_leaves old mid first left may
in_next old mid new first second left (inr may) = next_leaves old new (second ∙ first) left may

-- ---- the name

pub sync_folder_leaves : (f : Option Folder) (left : List ℕ) → MayLeave (called SyncFolder f) left → MayLeave f left
sync_folder_leaves None left may = may
sync_folder_leaves (Some d) left may = ap (λ b. b || is_one_left d.named left) (first_only _ may)

pub in_sync_folder : (f g : Option Folder) → g ≡ called Rename f → (left : List ℕ) → MayLeaveIn SyncFolder g left → MayLeaveIn Rename f left
in_sync_folder f g is left (inl may) = inr (subst (λ h. MayLeave h left) is may)
in_sync_folder f g is left (inr may) = inr (sync_folder_leaves (called Rename f) left (subst (λ h. MayLeave (called SyncFolder h) left) is may))

or_left : (a b : Bool) → (a || b) ≡ true → (a ≡ true) ⊎ (b ≡ true)
or_left true b is = inl refl
or_left false b is = inr is

-- behind a rename it is the one text or the other
pub in_rename : (old mid : Option Folder) (entries : List Entry) → mid ≡ option_map (with_next (file_with (journal_text entries) [])) old → (left : List ℕ) → MayLeaveIn Rename mid left → IsLeftOr old entries left
in_rename None mid entries is left (inl may) = absurd (subst (λ h. MayLeave h left) is may)
in_rename None mid entries is left (inr may) = absurd (subst (λ h. MayLeave (called Rename h) left) is may)
in_rename (Some d) mid entries is left (inl may) = inl (subst (λ h. MayLeave h left) is may)
in_rename (Some d) mid entries is left (inr may) =
    ⊎_elim (λ new. inr (all_left (journal_text entries) left new)) (λ old. inl old)
    (or_left _ _ (subst (λ h. MayLeave (called Rename h) left) is may))

pub renamed : (old mid : Option Folder) (text : List ℕ) → mid ≡ option_map (with_next (file_with text [])) old → called SyncFolder (called Rename mid) ≡ option_map (λ _. settled text) old
renamed None mid text is = ap (λ h. called SyncFolder (called Rename h)) is
renamed (Some d) mid text is = ap (λ h. called SyncFolder (called Rename h)) is

-- ---- a journal that is settled

pub settled_by : (d : Folder) (es : List Entry) → AreRecords None es → d.journal ≡ file_with (journal_text es) [] → d.named ≡ [] → IsSettled d × (records_in d ≡ es)
settled_by d es good journal named =
    let bytes : bytes_of d.journal ≡ journal_text es = ap bytes_of journal ∙ append-nil (journal_text es) in
    let same : records_in d ≡ es = ap (λ t. (read_journal t).entries) bytes ∙ ap (λ (r : Reading). r.entries) (written_read es good) in (
      record {
        records = subst (λ xs. AreRecords None xs) (sym same) good;
        journal = journal ∙ ap (λ xs. file_with (journal_text xs) []) (sym same);
        named = named;
      },
      same,
    )

pub settled_anew : (old : Option Folder) (es : List Entry) → AreRecords None es → IfKnown (option_map (λ _. settled (journal_text es)) old) (IsSettledAt (last_number None es))
settled_anew None es good = tt
settled_anew (Some d) es good =
    let parts = settled_by (settled (journal_text es)) es good refl refl in
    (parts.0, ap (λ xs. last_number None xs) (sym parts.1))

pub records_anew : (old : Option Folder) (es : List Entry) → AreRecords None es → option_map records_in (option_map (λ _. settled (journal_text es)) old) ≡ option_map (λ _. es) (option_map records_in old)
records_anew None es good = refl
records_anew (Some d) es good = ap Some (settled_by (settled (journal_text es)) es good refl refl).1

pub still_settled : (old new : Option Folder) (last : Option ℕ) → HasSameNames old new → IfKnown old (IsSettledAt last) → IfKnown new (IsSettledAt last) × (option_map records_in new ≡ option_map records_in old)
still_settled None None last same was = (tt, refl)
still_settled None (Some e) last same was = absurd (cc same)
still_settled (Some d) None last same was = absurd (cc same)
still_settled (Some d) (Some e) last same was =
    let names : without_next e ≡ without_next d = cc in
    let journal : e.journal ≡ d.journal = ap (λ (x : Folder). x.journal) names in
    let named : e.named ≡ d.named = ap (λ (x : Folder). x.named) names in
    let parts = settled_by e (records_in d) was.0.records (journal ∙ was.0.journal) (named ∙ was.0.named) in
    ((parts.0, was.1 ∙ ap (λ xs. last_number None xs) (sym parts.1)), ap Some parts.1)

-- ---- one record more

pub follows_next : (last : Option ℕ) → follows last (next_number last) ≡ true
follows_next None = refl
follows_next (Some n) = eq-eqb (n + 1) (n + 1) refl

more_records : (last : Option ℕ) (es : List Entry) (e : Entry) → AreRecords last es → IsRecord e → follows (last_number last es) e.number ≡ true → AreRecords last (es ++ e ∷ [])
more_records last [] e good one next = (one, next, tt)
more_records last (x ∷ es) e good one next = (good.0, good.1, more_records (Some x.number) es e good.2 one next)

last_of_more : (last : Option ℕ) (es : List Entry) (e : Entry) → last_number last (es ++ e ∷ []) ≡ Some e.number
last_of_more last [] e = refl
last_of_more last (x ∷ es) e = last_of_more (Some x.number) es e

-- a record that may be added to a folder's journal
pub record MayBeAdded (d : Folder) (last : Option ℕ) (e : Entry) : Type 0 where
  pub before : IsSettledAt last d
  pub one : IsRecord e
  pub number : e.number ≡ next_number last

all_records : (d : Folder) (last : Option ℕ) (e : Entry) → MayBeAdded d last e → AreRecords None (records_in d ++ e ∷ [])
all_records d last e add =
    more_records None (records_in d) e add.before.0.records add.one
    (ap (λ n. follows (last_number None (records_in d)) n) add.number ∙ ap (λ l. follows l (next_number last)) (sym add.before.1) ∙ follows_next last)

at_moment : (d : Folder) (es : List Entry) (e : Entry) (left : List ℕ) → d.journal ≡ file_with (journal_text es) [] → d.named ≡ []
    → EachMoment (LeavesOnly (IsBeforeOrAfter es e)) (settled (journal_text es)) (append_calls (record_text e)) → MayLeaveSynced (record_text e) (Some d) left → IsBeforeOrAfter es e left
at_moment d es e left journal named moments (inl (inl may)) =
    moments.0 left
    (sym (ap (λ f. may_be_left f left || is_one_left d.named left) journal ∙ ap (λ ns. may_be_left (file_with (journal_text es) []) left || is_one_left ns left) named) ∙ may)
at_moment d es e left journal named moments (inl (inr may)) =
    moments.1.0 left
    (sym (ap (λ f. may_be_left (written (record_text e) f) left || is_one_left d.named left) journal ∙ ap (λ ns. may_be_left (file_with (journal_text es) (record_text e)) left || is_one_left ns left) named) ∙ may)
at_moment d es e left journal named moments (inr may) =
    moments.1.1 left
    (sym (ap (λ f. may_be_left (on_disk (written (record_text e) f)) left || is_one_left d.named left) journal ∙ ap (λ ns. may_be_left (file_with (journal_text es ++ record_text e) []) left || is_one_left ns left) named) ∙ may)

pub added_leaves : (f : Option Folder) (last : Option ℕ) (e : Entry) → IfKnown f (IsSettledAt last) → IsRecord e → e.number ≡ next_number last → (left : List ℕ) → MayLeaveSynced (record_text e) f left → HasOneMore f e left
added_leaves None last e was one number left may = tt
added_leaves (Some d) last e was one number left may =
    let es = records_in d in
    at_moment d es e left was.0.journal was.0.named (cut_append es e (all_records d last e (record { before = was; one = one; number = number }))) may

pub added_open : (f : Option Folder) (last : Option ℕ) (e : Entry) → IfKnown f (IsSettledAt last) → IsRecord e → e.number ≡ next_number last
    → IfKnown (called Sync (called (Append (record_text e)) f)) (IsSettledAt (Some e.number)) × (option_map records_in (called Sync (called (Append (record_text e)) f)) ≡ option_map (λ es. es ++ e ∷ []) (option_map records_in f))
added_open None last e was one number = (tt, refl)
added_open (Some d) last e was one number =
    let es = records_in d in
    let good = all_records d last e (record { before = was; one = one; number = number }) in
    let journal : on_disk (written (record_text e) d.journal) ≡ file_with (journal_text (es ++ e ∷ [])) [] =
    ap (λ f. on_disk (written (record_text e) f)) was.0.journal ∙ ap (λ t. file_with t []) (one_behind e es) in
    let parts = settled_by (after (after d (Append (record_text e))) Sync) (es ++ e ∷ []) good journal was.0.named in
    ((parts.0, sym (ap (λ xs. last_number None xs) parts.1 ∙ last_of_more None es e)), ap Some parts.1)

-- ---- a journal that is opened

pub opened_leaves : (old : Option Folder) (bytes : List ℕ) → IfKnown old (λ d. bytes ≡ bytes_of d.journal) → (left : List ℕ) → IsLeftOr old (read_journal bytes).entries left → IsLeftOrRead old left
opened_leaves old bytes is left (inl may) = inl may
opened_leaves None bytes is left (inr new) = inr tt
opened_leaves (Some d) bytes is left (inr new) = inr (new ∙ ap (λ t. journal_text (read_journal t).entries) is)

pub in_synced : (bytes : List ℕ) (old mid : Option Folder) → mid ≡ called (Append bytes) old → (left : List ℕ) → MayLeaveIn Sync mid left → MayLeaveSynced bytes old left
in_synced bytes old mid is left (inl may) = inl (inr (subst (λ h. MayLeave h left) is may))
in_synced bytes old mid is left (inr may) = inr (subst (λ h. MayLeave (called Sync h) left) is may)

-- the last of some records that were read
last_behind : (last : Option ℕ) (r : Record) (rs : List Record) → last_number last (map entry_seen (r ∷ rs)) ≡ option_map (λ (x : Record). x.number) (slice_get (r ∷ rs) (length rs))
last_behind last r [] = refl
last_behind last r (x ∷ rs) = last_behind (Some r.number) x rs

pub last_read : (rs : List Record) → last_number None (map entry_seen rs) ≡ option_map (λ (x : Record). x.number) (slice_get rs (length rs - 1))
last_read [] = refl
last_read (r ∷ rs) =
    let at : length (r ∷ rs) - 1 ≡ length rs = omega arith in
    last_behind None r rs ∙ ap (λ n. option_map (λ (x : Record). x.number) (slice_get (r ∷ rs) n)) (sym at)

-- ---- what functions that change a journal need

-- what may be left now is the journal as it is
pub kept_leaves : (f : Option Folder) (last : Option ℕ) (e : Entry) → IfKnown f (IsSettledAt last) → (left : List ℕ) → MayLeave f left → HasOneMore f e left
kept_leaves None last e was left may = tt
kept_leaves (Some d) last e was left may = λ premise. inr (ap read_journal is ∙ written_read es was.0.records ∙ ap (λ t. read_as es t) (sym nothing))
  where
    es : List Entry
    es = records_in d

    text : List ℕ
    text = journal_text es

    is : left ≡ text
    is = all_left text left (first_only _ (sym (ap (λ f. may_be_left f left || is_one_left d.named left) was.0.journal ∙ ap (λ ns. may_be_left (file_with text []) left || is_one_left ns left) was.0.named) ∙ may))

    nothing : drop (length text) left ≡ []
    nothing = ap (λ t. drop (length text) t) is ∙ drop_all (length text) text (omega arith)

pub replaced_settled : (old new : Option Folder) (es : List Entry) (last : Option ℕ) → AreRecords None es → new ≡ option_map (λ _. settled (journal_text es)) old → last ≡ last_number None es → IfKnown new (IsSettledAt last)
replaced_settled old new es last good done is =
    subst (λ f. IfKnown f (IsSettledAt last)) (sym done) (subst (λ l. IfKnown (option_map (λ _. settled (journal_text es)) old) (IsSettledAt l)) (sym is) (settled_anew old es good))

pub replaced_records : (old new : Option Folder) (es : List Entry) → AreRecords None es → new ≡ option_map (λ _. settled (journal_text es)) old → option_map records_in new ≡ option_map (λ _. es) (option_map records_in old)
replaced_records old new es good done = ap (λ f. option_map records_in f) done ∙ records_anew old es good

pub opened_same : (old : Option Folder) (bytes : List ℕ) (es : List Entry) → es ≡ (read_journal bytes).entries → IfKnown old (λ d. bytes ≡ bytes_of d.journal) → option_map (λ _. es) (option_map records_in old) ≡ option_map records_in old
opened_same None bytes es read held = refl
opened_same (Some d) bytes es read held = ap Some (read ∙ ap (λ t. (read_journal t).entries) held)

pub told_damage : (old : Option Folder) (bytes : List ℕ) → IfKnown old (λ d. bytes ≡ bytes_of d.journal) → (read_journal bytes).behind ≡ Damage → IfKnown old (λ d. (read_journal (bytes_of d.journal)).behind ≡ Damage)
told_damage None bytes held damage = tt
told_damage (Some d) bytes held damage = ap (λ t. (read_journal t).behind) (sym held) ∙ damage

pub opened_leaves_of : (old : Option Folder) (bytes : List ℕ) (es : List Entry) → es ≡ (read_journal bytes).entries → IfKnown old (λ d. bytes ≡ bytes_of d.journal) → (left : List ℕ) → IsLeftOr old es left → IsLeftOrRead old left
opened_leaves_of old bytes es read held left may = opened_leaves old bytes held left (subst (λ xs. IsLeftOr old xs left) read may)

-- the record that is added
pub one_record : (last : Option ℕ) (n lines : ℕ) (rows position : List ℕ) → n ≡ next_number last → n < 2 ^ 64 → lines < 2 ^ 64 → length rows < 2 ^ 64 → are_rows rows ≡ true → is_position position ≡ true
    → entry_sum (record { number = n; lines = lines; rows = rows; position = position }) < 2 ^ 64 → IsRecord (entry_behind last lines rows position)
one_record last n lines rows position is number few size good place sum = record {
  rows = good;
  position = place;
  number = subst (λ k. k < 2 ^ 64) is number;
  lines = few;
  size = size;
  sum = subst (λ k. entry_sum (record { number = k; lines = lines; rows = rows; position = position }) < 2 ^ 64) is sum;
}

pub its_text : (last : Option ℕ) (n lines : ℕ) (rows position : List ℕ) → n ≡ next_number last → record_text (record { number = n; lines = lines; rows = rows; position = position }) ≡ record_text (entry_behind last lines rows position)
its_text last n lines rows position is = ap (λ k. record_text (record { number = k; lines = lines; rows = rows; position = position })) is

-- by the text that was written
pub added_leaves_by : (f : Option Folder) (last : Option ℕ) (e : Entry) (text : List ℕ) → IfKnown f (IsSettledAt last) → IsRecord e → e.number ≡ next_number last → text ≡ record_text e → (left : List ℕ) → MayLeaveSynced text f left → HasOneMore f e left
added_leaves_by f last e text was one number is left may = added_leaves f last e was one number left (subst (λ t. MayLeaveSynced t f left) is may)

pub added_settled : (f g : Option Folder) (last : Option ℕ) (e : Entry) (text : List ℕ) → IfKnown f (IsSettledAt last) → IsRecord e → e.number ≡ next_number last → text ≡ record_text e → g ≡ called Sync (called (Append text) f) → IfKnown g (IsSettledAt (Some e.number))
added_settled f g last e text was one number is done = subst (λ h. IfKnown h (IsSettledAt (Some e.number))) (sym (done ∙ ap (λ t. called Sync (called (Append t) f)) is)) (added_open f last e was one number).0

pub added_records : (f g : Option Folder) (last : Option ℕ) (e : Entry) (text : List ℕ) → IfKnown f (IsSettledAt last) → IsRecord e → e.number ≡ next_number last → text ≡ record_text e → g ≡ called Sync (called (Append text) f)
    → option_map records_in g ≡ option_map (λ es. es ++ e ∷ []) (option_map records_in f)
added_records f g last e text was one number is done = ap (λ h. option_map records_in h) (done ∙ ap (λ t. called Sync (called (Append t) f)) is) ∙ (added_open f last e was one number).1
