-- Rows that are too far ahead of the watermark, and wait until it lets them pass. They go in the order of their times, each behind a
-- watermark that isn't past its time, so that none is late for having waited. The rule is this project's own.
use Rattle.std.specs.Prelude.{◌≡◌, ℕ, ◌+◌, ◌-◌, ◌<◌, ◌≤◌, max, min, Bool, true, false, not, nat_le, nat_lt, Some, if◌then◌else◌, refl}
use Rattle.std.specs.Prelude.{List, [], ◌∷◌, ◌++◌, drop, length, map, take, IsPermutation}
use Rattle.std.specs.List.{AllByRecursion}
use Rattle.std.specs.Coded.{Coded, code_by, coded×, coded_list, coded_ℕ}
use Rattle.wsm_watermarks.specs.declared.held.Timed.{Timed}
use Rattle.wsm_watermarks.specs.declared.rule.Rule.{Rule}
use Rattle.wsm_watermarks.specs.declared.stamp.Stamp.{Stamp}
use Rattle.wsm_watermarks.specs.Agreement.{behind, mark_after}

-- ---- what is kept

-- rows that wait, the earliest first, and for how many there is room
pub record Waiting (T : Type 0) : Type 0 where
  pub rows : List (Timed T)
  pub room : ℕ

abbrev pub timed_code : {T : Type 0} → Coded T → Coded (Timed T)
timed_code {T} c = code_by (ℕ × T) (coded× coded_ℕ c) (λ w. (w.time, w.row)) (λ p. record { time = p.0; row = p.1 }) (λ _. refl)

abbrev pub waiting_code : {T : Type 0} → Coded T → Coded (Waiting T)
waiting_code {T} c =
    code_by (List (Timed T) × ℕ) (coded× (coded_list (timed_code c)) coded_ℕ) (λ w. (w.rows, w.room)) (λ p. record { rows = p.0; room = p.1 }) (λ _. refl)

-- the time is at most a limit
abbrev pub is_near : {T : Type 0} → ℕ → Timed T → Bool
is_near limit row = nat_le row.time limit

abbrev pub is_far : {T : Type 0} → ℕ → Timed T → Bool
is_far limit row = not (is_near limit row)

-- the first row is one of these
abbrev pub starts_near : {T : Type 0} → ℕ → List (Timed T) → Bool
starts_near limit [] = false
starts_near limit (r ∷ rs) = is_near limit r

-- none has an earlier time than those in front
abbrev pub AreByTime : {T : Type 0} → List (Timed T) → Type 0
AreByTime [] = Unit {0}
AreByTime (r ∷ rs) = AllByRecursion (λ q. r.time ≤ q.time) rs × AreByTime rs

-- a row put behind those whose time isn't later
abbrev pub queued : {T : Type 0} → Timed T → List (Timed T) → List (Timed T)
queued r [] = r ∷ []
queued r (q ∷ qs) = if nat_lt r.time q.time then r ∷ q ∷ qs else q ∷ queued r qs

-- ---- what is handed on

-- a watermark, or a row
pub data Item (T : Type 0) : Type 0 where
  Mark : (time : ℕ) → Item T
  Passed : (row : Timed T) → Item T

-- a watermark, where it is greater than the last
abbrev pub mark_item : {T : Type 0} → ℕ → ℕ → List (Item T)
mark_item old new = if nat_lt old new then Mark new ∷ [] else []

-- the watermark in front of a row that waited: the one that its time alone would raise, as far as clocks agree
abbrev pub mark_for : Rule → ℕ → ℕ → ℕ → ℕ
mark_for rule top old time = max old (min top (behind rule (Some time)))

-- of some that wait those that may pass, each behind such a watermark, where clocks agree on one
abbrev pub let_go : {T : Type 0} → Rule → ℕ → ℕ → ℕ → List (Timed T) → List (Item T)
let_go rule ahead top mark [] = []
let_go rule ahead top mark (r ∷ rs) =
    if is_near (top + ahead) r then mark_item mark (mark_for rule top mark r.time) ++ Passed r ∷ let_go rule ahead top (mark_for rule top mark r.time) rs
    else []

-- those that go on waiting
abbrev pub left : {T : Type 0} → ℕ → List (Timed T) → List (Timed T)
left limit [] = []
left limit (r ∷ rs) = if is_near limit r then left limit rs else r ∷ rs

-- the last watermark, where one came before
abbrev pub last_mark : {T : Type 0} → ℕ → List (Item T) → ℕ
last_mark mark [] = mark
last_mark mark (Mark m ∷ is) = last_mark m is
last_mark mark (Passed r ∷ is) = last_mark mark is

abbrev pub rows_of : {T : Type 0} → List (Item T) → List (Timed T)
rows_of [] = []
rows_of (Mark m ∷ is) = rows_of is
rows_of (Passed r ∷ is) = r ∷ rows_of is

-- a row that comes, and the watermark that clocks agree on after its stamp
abbrev pub Coming : Type 0 → Type 0
Coming T = Timed T × ℕ

-- what was handed on, the last watermark, and what waits
pub record Went (T : Type 0) : Type 0 where
  pub out : List (Item T)
  pub mark : ℕ
  pub held : List (Timed T)

abbrev pub all_passed : {T : Type 0} → List (Timed T) → List (Item T)
all_passed [] = []
all_passed (r ∷ rs) = Passed r ∷ all_passed rs

-- what is handed on as a row comes that may pass or not, and what waits then, with room for so many
abbrev pub handed : {T : Type 0} → Bool → ℕ → Timed T → List (Timed T) → List (Item T)
handed true room r rs = Passed r ∷ []
handed false room r rs = all_passed (drop room (queued r rs))

abbrev pub waiting : {T : Type 0} → Bool → ℕ → Timed T → List (Timed T) → List (Timed T)
waiting true room r rs = rs
waiting false room r rs = take room (queued r rs)

-- as a row comes: those that wait and may pass go first, then the watermark, and then the row, if it may pass; else it waits, and where
-- there is no room for one more, the last of those that wait goes, too far ahead as it is
abbrev pub went_on : {T : Type 0} → Rule → ℕ → ℕ → Went T → Coming T → Went T
went_on rule ahead room w c =
    let gone = let_go rule ahead c.1 w.mark w.held in
    let mark = last_mark w.mark gone in
    let out = w.out ++ gone ++ mark_item mark c.1 in
    let still = left (c.1 + ahead) w.held in
    if is_near (c.1 + ahead) c.0 then record { out = out ++ Passed c.0 ∷ []; mark = max mark c.1; held = still }
    else record { out = out ++ all_passed (drop room (queued c.0 still)); mark = max mark c.1; held = take room (queued c.0 still) }

-- the same of rows, the newest first
abbrev pub went : {T : Type 0} → Rule → ℕ → ℕ → List (Coming T) → Went T
went rule ahead room [] = record { out = []; mark = rule.start; held = [] }
went rule ahead room (c ∷ cs) = went_on rule ahead room (went rule ahead room cs) c

-- ---- what holds

-- the rows that came
abbrev pub came : {T : Type 0} → List (Coming T) → List (Timed T)
came [] = []
came (c ∷ cs) = came cs ++ c.0 ∷ []

-- the rows that could pass as they came
abbrev pub passed : {T : Type 0} → ℕ → List (Coming T) → List (Timed T)
passed ahead [] = []
passed ahead (c ∷ cs) = if is_near (c.1 + ahead) c.0 then passed ahead cs ++ c.0 ∷ [] else passed ahead cs

-- one list is what is left of another, in its order
pub data IsPartOf {T : Type 0} : List T → List T → Type 0 where
  Done : IsPartOf [] []
  Both : (x : T) (xs ys : List T) → IsPartOf xs ys → IsPartOf (x ∷ xs) (x ∷ ys)
  Left : (x : T) (xs ys : List T) → IsPartOf xs ys → IsPartOf xs (x ∷ ys)

-- Each row was handed on once, or waits. No more wait than there is room for. Those that could pass as they came were
-- handed on in the order in which they came
pub record KeepsRows {T : Type 0} (rule : Rule) (ahead room : ℕ) (cs : List (Coming T)) : Type 0 where
  pub all : IsPermutation (came cs) (rows_of (went rule ahead room cs).out ++ (went rule ahead room cs).held)
  pub few : length (went rule ahead room cs).held ≤ room
  pub came_so : IsPartOf (passed ahead cs) (came cs)
  pub went_so : IsPartOf (passed ahead cs) (rows_of (went rule ahead room cs).out)

-- behind a watermark each further one is greater, and each row isn't before the last, nor further ahead than so much
abbrev pub AreInTime : {T : Type 0} → ℕ → ℕ → List (Item T) → Type 0
AreInTime span mark [] = Unit {0}
AreInTime span mark (Mark m ∷ is) = (mark < m) × AreInTime span m is
AreInTime span mark (Passed r ∷ is) = (mark ≤ r.time) × (r.time ≤ mark + span) × AreInTime span mark is

-- how far a row that waited may be ahead of the watermark in front of it
abbrev pub span_of : Rule → ℕ → ℕ
span_of rule ahead = max ahead (rule.bound + rule.step - 1)

-- the watermarks that clocks agree on don't fall, from START on
abbrev pub AreRising : {T : Type 0} → Rule → List (Coming T) → Type 0
AreRising rule [] = Unit {0}
AreRising rule (c ∷ []) = rule.start ≤ c.1
AreRising rule (c ∷ d ∷ cs) = (d.1 ≤ c.1) × AreRising rule (d ∷ cs)

-- rows and their clocks, the newest first, each with the watermark that clocks agree on after its stamp
abbrev pub stamped : {T : Type 0} → List (ℕ × Timed T) → List Stamp
stamped rows = map (λ r. record { clock = r.0; time = r.1.time }) rows

abbrev pub comings : {T : Type 0} → Rule → List (ℕ × Timed T) → List (Coming T)
comings rule [] = []
comings rule (r ∷ rs) = (r.1, mark_after rule (stamped (r ∷ rs))) ∷ comings rule rs

-- as a row comes: those that waited go in time, what goes on waiting is further ahead than may pass, and the last watermark is the one
-- that clocks agree on
pub record WaitsInTime {T : Type 0} (rule : Rule) (ahead room : ℕ) (cs : List (Coming T)) (c : Coming T) : Type 0 where
  pub in_time : let w = went rule ahead room cs in AreInTime (span_of rule ahead) w.mark (let_go rule ahead c.1 w.mark w.held)
  pub waits : AllByRecursion (λ r. is_far (c.1 + ahead) r ≡ true) (went rule ahead room (c ∷ cs)).held
  pub mark : (went rule ahead room (c ∷ cs)).mark ≡ c.1
