-- What a journal says as it is opened.
use Rattle.std.proofs.Common.{◌≡◌, ◌∙◌, ◌-◌, ◌≤◌, ℕ, List, [], ◌∷◌, Option, Some, None, drop, length, map, option_map, slice_get, inl, inr, refl, sym, ap, subst, arith}
use Rattle.std.proofs.lemmas.List.{drop_at}
use Rattle.wsm_numbered.specs.Seen.{count_of, sum_in}
use Rattle.wsm_journal.specs.Text.{Entry, last_number}
use Rattle.wsm_journal.specs.Reading.{read_journal}
use Rattle.wsm_journal.specs.Folder.{Folder, bytes_of}
use Rattle.wsm_journal.specs.Calls.{IfKnown, LeavesSince, MayLeave}
use Rattle.wsm_journal.specs.Laws.{IsBeforeOrAfter}
use Rattle.wsm_journal.specs.Kept.{HasOneMore, IsLeftOr, IsLeftOrRead, IsSettledAt, entry_behind, records_in}
use Rattle.wsm_journal.specs.Seen.{entry_seen}
use Rattle.wsm_journal.specs.declared.records.Record.{Record}
use Rattle.wsm_journal.proofs.Since.{joined_since, weaker}
use Rattle.wsm_live.specs.declared.run.LiveRun.{LiveRun}
use Rattle.wsm_live.specs.declared.live.Live.{Live}
use Rattle.wsm_live.specs.Head.{StandsFor, behind_row, cut_row, name_in, own_row}
use Rattle.wsm_live.specs.Told.{Turn}
use Rattle.wsm_live.specs.Live.{AddsCut, Counts, IsBegun, IsBehind, IsHeadOf, GoneOn, IsLeftBegun, IsLeftOpened, IsLeftOrCut, Opened, Resumed, Takes, Took, chunk_lines, head_entry, last_position, lines_behind}
use Rattle.wsm_live.proofs.RunLemmas.{Took-none}

-- ---- where the last record stands

last_of : Record → List Record → Record
last_of r [] = r
last_of r (x ∷ rs) = last_of x rs

last_at : (r : Record) (rs : List Record) → slice_get (r ∷ rs) (length rs) ≡ Some (last_of r rs)
unfolding last_of
last_at r [] = refl
last_at r (x ∷ rs) = last_at x rs

last_place : (position : List ℕ) (r : Record) (rs : List Record) → last_position position (map entry_seen (r ∷ rs)) ≡ (last_of r rs).position.now
unfolding last_of
last_place position r [] = refl
last_place position r (x ∷ rs) = last_place r.position.now x rs

pub place_some : (first : List ℕ) (rs : List Record) (x : Record) → Some x ≡ slice_get rs (length rs - 1) → x.position.now ≡ last_position first (map entry_seen rs)
place_some first [] x is = cc
place_some first (r ∷ rs) x is =
    let at : length (r ∷ rs) - 1 ≡ length rs = omega arith in
    let all : Some x ≡ Some (last_of r rs) = is ∙ ap (slice_get (r ∷ rs)) at ∙ last_at r rs in
    let same : x ≡ last_of r rs = cc in
    ap (λ (y : Record). y.position.now) same ∙ sym (last_place first r rs)

pub place_none : (first : List ℕ) (rs : List Record) → None ≡ slice_get rs (length rs - 1) → first ≡ last_position first (map entry_seen rs)
place_none first [] is = refl
place_none first (r ∷ rs) is =
    let at : length (r ∷ rs) - 1 ≡ length rs = omega arith in
    let all : None ≡ Some (last_of r rs) = is ∙ ap (slice_get (r ∷ rs)) at ∙ last_at r rs in
    cc

-- ---- what was opened

-- the first of some records, and those behind it
pub first_entry : (rs : List Record) (x : Record) → Some x ≡ slice_get rs 0 → entry_seen x ∷ map entry_seen (drop 1 rs) ≡ map entry_seen rs
first_entry [] x is = cc
first_entry (r ∷ rs) x is =
    let first : x ≡ r = cc in
    ap (λ (y : Record). entry_seen y ∷ map entry_seen rs) first

-- a run of a journal without a record
pub resumed_none : {T B : Type 0} (turn : B → Turn) (stands : T → B → List (List ℕ) → Type 0) (states : List ℕ → B → List (List ℕ) → Type 0) (head : List ℕ) (run : LiveRun T) (rs : List Record)
    → None ≡ slice_get rs 0 → Resumed turn stands states head (map entry_seen rs) run run
resumed_none turn stands states head run [] none = record {
  behind = λ by before behind says. subst (λ (ls : List (List ℕ)). IsBehind turn stands run by ls) (sym says) behind;
  longest = refl;
  headed = tt;
  readable = refl;
}
resumed_none turn stands states head run (r ∷ rs) none = cc

pub gone_on : {F T B : Type 0} {turn : B → Turn} {stands : T → B → List (List ℕ) → Type 0} {head begin : List ℕ} {run : LiveRun T} {live : Live F T} {from to : List ℕ} (rs chunks : List Record) (x : Record)
    → Some x ≡ slice_get rs 0 → chunks ≡ drop 1 rs → Took turn stands (chunk_lines run.longest (map entry_seen chunks)) run live.run from to → live.run.longest ≡ run.longest
    → live.head.items ≡ own_row head x.rows.now → live.name.items ≡ name_in x.rows.now → live.position.items ≡ last_position x.position.now (map entry_seen chunks)
    → GoneOn turn stands head begin (map entry_seen rs) run live from to
gone_on [] chunks x is at took longest row name position = cc
gone_on {turn = turn} {stands = stands} {head = head} {run = run} {live = live} {from = from} {to = to} (r ∷ rs) chunks x is at took longest row name position =
    let first : x ≡ r = cc in
    record {
      took = subst (λ (l : List Record). Took turn stands (chunk_lines run.longest (map entry_seen l)) run live.run from to) at took;
      longest = longest;
      row = row ∙ ap (λ (y : Record). own_row head y.rows.now) first;
      name = name ∙ ap (λ (y : Record). name_in y.rows.now) first;
      position = position ∙ ap (λ (l : List Record). last_position x.position.now (map entry_seen l)) at ∙ ap (λ (y : Record). last_position y.position.now (map entry_seen rs)) first;
    }

pub gone_begun : {F T B : Type 0} {turn : B → Turn} {stands : T → B → List (List ℕ) → Type 0} {head begin : List ℕ} {run : LiveRun T} {live : Live F T} {text : List ℕ}
    → live.run ≡ run → live.head.items ≡ head → live.name.items ≡ name_in head → live.position.items ≡ begin → GoneOn turn stands head begin [] run live text text
gone_begun {turn = turn} {stands = stands} {run = run} {live = live} {text = text} same row name position = record {
  took = subst (λ r. Took turn stands [] run r text text) (sym same) (Took-none turn stands run text);
  longest = ap (λ r. r.longest) same;
  row = row;
  name = name;
  position = position;
}

-- a run went on behind what the head stands for, and then over all chunks
pub opened_by : {F T B : Type 0} {turn : B → Turn} {stands : T → B → List (List ℕ) → Type 0} {states : List ℕ → B → List (List ℕ) → Type 0} {head begin : List ℕ} {es : List Entry} {run mid : LiveRun T} {live : Live F T} {from to : List ℕ}
    → Resumed turn stands states head es run mid → GoneOn turn stands head begin es mid live from to → ((by : B) (before : List (List ℕ)) → IsBehind turn stands mid by before → Counts turn by before live.front) → Opened turn stands states head begin es run live from to
opened_by {turn = turn} {stands = stands} {es = es} {live = live} {from = from} {to = to} resumed gone counts = record {
  took = λ by before none says.
      subst (λ (n : ℕ). Takes turn stands by before (lines_behind n es) live.run from to) resumed.longest (gone.took by before (resumed.behind by before none says));
  front = λ by before none says. counts by before (resumed.behind by before none says);
  longest = gone.longest ∙ resumed.longest;
  headed = resumed.headed;
  readable = resumed.readable;
  row = gone.row;
  name = gone.name;
  position = gone.position;
}

-- ---- what is cut

-- a head that stands for a run's lines
pub head_of : {F T B : Type 0} (turn : B → Turn) (stands : T → B → List (List ℕ) → Type 0) (states : List ℕ → B → List (List ℕ) → Type 0) (l : Live F T) (rows : List ℕ)
    → AddsCut turn stands states l.run l.head.items rows → IsHeadOf turn stands states l (head_entry rows l.position.items)
head_of turn stands states l rows adds =
    let row : List ℕ = cut_row (count_of l.run.numbering) (sum_in l.run.numbering) adds.text in
    let own : behind_row l.head.items rows ≡ row = ap (behind_row l.head.items) adds.row ∙ drop_at l.head.items row (length l.head.items) refl in
    record {
      text = adds.text;
      entry = ap (λ (r : List ℕ). head_entry r l.position.items) adds.row;
      says = λ by before behind. subst (StandsFor turn states by before) (sym own) (adds.says by before behind);
    }

-- the same of rows that were put behind the row of its head, as these are read
pub head_put : {F T B : Type 0} (turn : B → Turn) (stands : T → B → List (List ℕ) → Type 0) (states : List ℕ → B → List (List ℕ) → Type 0) (l : Live F T) (head rows seen position : List ℕ)
    → head ≡ l.head.items → seen ≡ rows → position ≡ l.position.items → AddsCut turn stands states l.run head rows → IsHeadOf turn stands states l (head_entry seen position)
head_put turn stands states l head rows seen position same_head same_rows same_position said =
    let own = subst (λ (h : List ℕ). AddsCut turn stands states l.run h rows) same_head said in
    let adds = subst (λ (r : List ℕ). AddsCut turn stands states l.run l.head.items r) (sym same_rows) own in
    subst (λ (p : List ℕ). IsHeadOf turn stands states l (head_entry seen p)) (sym same_position) (head_of turn stands states l seen adds)

pub cut_leaves : {F T B : Type 0} (turn : B → Turn) (stands : T → B → List (List ℕ) → Type 0) (states : List ℕ → B → List (List ℕ) → Type 0) (l : Live F T) (e : Entry) (folder : Option Folder)
    → IsHeadOf turn stands states l e → (left : List ℕ) → IsLeftOr folder (e ∷ []) left → IsLeftOrCut turn stands states l folder left
cut_leaves turn stands states l e folder is left (inl may) = inl may
cut_leaves turn stands states l e folder is left (inr text) = inr (record { head = e; is_head = is; text = text })

-- a journal with a record stays as it is
pub stays_begun : (last : Option ℕ) (head begin : List ℕ) (rs : List Record) (x : Record) (es : Option (List Entry)) → Some x ≡ slice_get rs 0 → IsBegun (map entry_seen rs) last head begin es es
stays_begun last head begin [] x es is = cc
stays_begun last head begin (r ∷ rs) x es is = refl

pub no_record : (rs : List Record) → None ≡ slice_get rs 0 → [] ≡ map entry_seen rs
no_record [] none = refl
no_record (r ∷ rs) none = cc

-- ---- what power cuts leave while a journal is opened

-- a head that is begun
pub one_begun : (folder : Option Folder) (last : Option ℕ) (head position : List ℕ) (rs : List Record) → None ≡ slice_get rs 0 → (left : List ℕ) → HasOneMore folder (entry_behind last 0 head position) left
    → IsLeftBegun folder (map entry_seen rs) last head position left
one_begun folder last head position rs none left one = inr (sym (no_record rs none), one)

-- the same of the journal as it was before it was opened
pub begun_leaves : (f g : Option Folder) (last : Option ℕ) (bytes head position left : List ℕ) → IfKnown f (λ d. bytes ≡ bytes_of d.journal) → option_map records_in g ≡ option_map records_in f → IfKnown g (IsSettledAt last)
    → (read_journal bytes).entries ≡ [] → HasOneMore g (entry_behind last 0 head position) left → IfKnown f (λ d. (records_in d ≡ []) × IsBeforeOrAfter [] (head_entry head position) left)
begun_leaves None g last bytes head position left is same kept none one = tt
begun_leaves (Some d) None last bytes head position left is same kept none one = absurd (cc same)
begun_leaves (Some d) (Some e) last bytes head position left is same kept none one =
    let here : records_in d ≡ [] = ap (λ t. (read_journal t).entries) (sym is) ∙ none in
    let alike : records_in e ≡ records_in d = cc in
    let there : records_in e ≡ [] = alike ∙ here in
    let number : last ≡ None = kept.1 ∙ ap (last_number None) there in
    let begun : IsBeforeOrAfter (records_in e) (head_entry head position) left = subst (λ l. IsBeforeOrAfter (records_in e) (entry_behind l 0 head position) left) number one in
    (here, subst (λ es. IsBeforeOrAfter es (head_entry head position) left) there begun)

pub opened_leaves : (f g : Option Folder) (last : Option ℕ) (bytes head position left : List ℕ) → IfKnown f (λ d. bytes ≡ bytes_of d.journal) → option_map records_in g ≡ option_map records_in f → IfKnown g (IsSettledAt last)
    → (MayLeave g left → IsLeftOrRead f left) → IsLeftBegun g (read_journal bytes).entries last head position left → IsLeftOpened f head position left
opened_leaves f g last bytes head position left is same kept before (inl may) = inl (before may)
opened_leaves f g last bytes head position left is same kept before (inr begun) = inr (begun_leaves f g last bytes head position left is same kept begun.0 begun.1)

-- a journal that was opened, and then begun or not
pub opened_since : {F : Type 0} (moment : F → ℕ) (left_since : F → ℕ → List ℕ → Type 0) (folder : F → Option Folder) (old mid new : F) (last : Option ℕ) (bytes head position : List ℕ)
    → ((f : F) (t : ℕ) (left : List ℕ) → t ≤ moment f → MayLeave (folder f) left → left_since f t left)
    → IfKnown (folder old) (λ d. bytes ≡ bytes_of d.journal) → option_map records_in (folder mid) ≡ option_map records_in (folder old) → IfKnown (folder mid) (IsSettledAt last)
    → LeavesSince moment left_since old mid (IsLeftOrRead (folder old)) → LeavesSince moment left_since mid new (IsLeftBegun (folder mid) (read_journal bytes).entries last head position)
    → LeavesSince moment left_since old new (IsLeftOpened (folder old) head position)
opened_since moment left_since folder old mid new last bytes head position counts is same kept read begun =
    joined_since moment left_since old mid new (IsLeftOpened (folder old) head position) (IsLeftBegun (folder mid) (read_journal bytes).entries last head position)
    (weaker moment left_since old mid (IsLeftOrRead (folder old)) (IsLeftOpened (folder old) head position) read (λ left was. inl was)) begun
    (λ left may. opened_leaves (folder old) (folder mid) last bytes head position left is same kept (λ here. read.each left (counts mid (moment old) left read.later here)) may)
