-- What the parts hold and were given, of the rows that were dealt to them.
use Rattle.std.specs.Prelude.{◌≡◌, ◌≢◌, ◌⊎◌, ℕ, Bool, true, false, List, [], ◌∷◌, ◌++◌, Option, Some, Result, Err, OnOk, OnErr, slice_get, if◌then◌else◌}
use Rattle.std.specs.Io.Buffered.{reader_remaining}
use Rattle.std.specs.Io.KnownBytes.{Appends}
use Rattle.wsm_csv.specs.Device.{TakesPart}
use Rattle.wsm_csv.specs.declared.device.DeviceFault.{DeviceFault}
use Rattle.wsm_csv.specs.declared.rows.ReadEnd.{ReadEnd}
use Rattle.wsm_csv.specs.declared.rows.ReadEnd.TheVariants as read
use Rattle.wsm_csv.specs.Records.{AreAll, AreFirst}
use Rattle.wsm_deal.specs.Deal.{Sharing, dealt_to, is_for}
use Rattle.wsm_deal.specs.PartText.{is_begun, part_text}
use Rattle.wsm_deal.specs.declared.ahead.Ahead.{Ahead}
use Rattle.wsm_deal.specs.declared.part.Part.{Part}
use Rattle.wsm_deal.specs.declared.dealing.DealEnd.{DealEnd}
use Rattle.wsm_deal.specs.declared.dealing.DealEnd.TheVariants as ends
use Rattle.wsm_deal.specs.declared.shares.Goal.{Goal}

-- the bytes that a reader has left: those that it holds, and those that its input has left
abbrev pub bytes_of : {R : Type 0} → (R → Option (List ℕ)) → Ahead R → Option (List ℕ)
bytes_of remaining a = reader_remaining remaining a.input

-- what takes a part
abbrev pub out_of : {D : Type 0} → Part D → D
out_of p = p.out

-- a part of these rows: a beginning of their text was handed on, behind what was taken before, and the rest is kept
pub record Has {D : Type 0} (taken : D → Option (List ℕ)) (old : Option (List ℕ)) (rows : List (List (List ℕ))) (p : Part D) : Type 0 where
  pub given : List ℕ
  pub handed : Appends old (taken p.out) given
  pub text : given ++ p.text.items ≡ part_text rows
  pub begun : p.begun ≡ is_begun rows

-- what the devices had taken before, and the rows of each part, by its number
abbrev pub Befores : Type 0
Befores = ℕ → Option (List ℕ)

abbrev pub Hands : Type 0
Hands = ℕ → List (List (List ℕ))

abbrev pub EachHas : {D : Type 0} → (D → Option (List ℕ)) → Befores → Hands → List (Part D) → Type 0
EachHas taken olds hands parts = (k : ℕ) (p : _) → slice_get parts k ≡ Some p → Has taken (olds k) (hands k) p

-- each device took the text of its part's rows
abbrev pub EachTook : {D : Type 0} → (D → Option (List ℕ)) → Befores → Hands → List (Part D) → Type 0
EachTook taken olds hands parts = (k : ℕ) (p : _) → slice_get parts k ≡ Some p → Appends (olds k) (taken p.out) (part_text (hands k))

-- each device took a beginning of it
abbrev pub EachBegan : {D : Type 0} → (D → Option (List ℕ)) → Befores → Hands → List (Part D) → Type 0
EachBegan taken olds hands parts = (k : ℕ) (p : _) → slice_get parts k ≡ Some p → TakesPart (olds k) (taken p.out) (part_text (hands k))

-- what takes one of the parts has failed
abbrev pub SomeFailed : {D : Type 0} → (D → Bool) → List (Part D) → Type 0
SomeFailed failed parts = (k : ℕ) × (p : _) × slice_get parts k ≡ Some p × failed p.out ≡ true

-- what takes any of the parts works
abbrev pub NoneFailed : {D : Type 0} → (D → Bool) → List (Part D) → Type 0
NoneFailed failed parts = (k : ℕ) (p : _) → slice_get parts k ≡ Some p → failed p.out ≡ false

-- all that each device took has left
abbrev pub EachFlushed : {D : Type 0} → (D → Bool) → List (Part D) → Type 0
EachFlushed flushed parts = (k : ℕ) (p : _) → slice_get parts k ≡ Some p → flushed p.out ≡ true

-- no row was dealt to any of the parts
abbrev pub AreNew : {D : Type 0} → (D → Option (List ℕ)) → List (Part D) → Type 0
AreNew taken parts = (k : ℕ) (p : _) → slice_get parts k ≡ Some p → (old : Option (List ℕ)) × Has taken old [] p

-- one row more for the parts that it goes to
abbrev pub one_more : Goal → List (List ℕ) → Hands → Hands
one_more goal row hands k = if is_for k goal then hands k ++ row ∷ [] else hands k

-- a row behind others
abbrev pub with_row : List (List (List ℕ)) → List (List ℕ) → List (List (List ℕ))
with_row rows row = rows ++ row ∷ []

-- the rows of each part, of these
abbrev pub hands_of : Sharing → List (List (List ℕ)) → Hands
hands_of s rows k = dealt_to s k rows

abbrev pub end_of_read : ReadEnd → DealEnd
end_of_read read.Failed = ends.ReadFailed
end_of_read read.Memory = ends.Memory

-- all rows were dealt: each device took the text of its part's
pub record Dealt {D : Type 0} (taken : D → Option (List ℕ)) (known : Option (List ℕ)) (s : Sharing) (olds : Befores) (rows : List (List (List ℕ))) (parts : List (Part D)) : Type 0 where
  pub all : AreAll known rows
  pub took : EachTook taken olds (hands_of s rows) parts

-- dealing that ends early: the first rows were read, and each device took a beginning of the text of its part's
pub record EndsEarly {D : Type 0} (taken : D → Option (List ℕ)) (known : Option (List ℕ)) (s : Sharing) (olds : Befores) (rows : List (List (List ℕ))) (parts : List (Part D)) : Type 0 where
  pub first : AreFirst known rows
  pub began : EachBegan taken olds (hands_of s rows) parts

-- ---- what one step of dealing does

-- What is told of a device that worked, or of several: that writing failed only where that fails, and else all work. No read is told of.
pub record Tells {U : Type 0} (Fails Works : Type 0) (result : Result U DealEnd) : Type 0 where
  pub reads_none : result ≢ Err ends.ReadFailed
  pub write_failed : result ≡ Err ends.WriteFailed → Fails
  pub works : (result ≡ Err ends.WriteFailed) ⊎ Works

-- a row is dealt to a part: it has the row behind its own, or its device took a beginning of the text of them all
pub record TakesRow {D U : Type 0} (taken : D → Option (List ℕ)) (failed : D → Bool) (row : List (List ℕ)) (old new : Part D) (result : Result U DealEnd) : Type 0 where
  pub adds : (before : Option (List ℕ)) (rows : List (List (List ℕ))) → Has taken before rows old → OnOk result (Has taken before (rows ++ row ∷ []) new)
  pub part : (before : Option (List ℕ)) (rows : List (List (List ℕ))) → Has taken before rows old → OnErr result (TakesPart before (taken new.out) (part_text (rows ++ row ∷ [])))
  pub tells : Tells (failed new.out ≡ true) (failed new.out ≡ false) result

-- the device of a part is given what is kept for it: this holds then, or the device has failed and took a beginning of the text
pub record Gives {D U : Type 0} (taken : D → Option (List ℕ)) (failed : D → Bool) (after : Option (List ℕ) → List (List (List ℕ)) → Part D → Type 0) (old new : Part D) (result : Result U DeviceFault) : Type 0 where
  pub gives : (before : Option (List ℕ)) (rows : List (List (List ℕ))) → Has taken before rows old → OnOk result (after before rows new)
  pub part : (before : Option (List ℕ)) (rows : List (List (List ℕ))) → Has taken before rows old → OnErr result (TakesPart before (taken new.out) (part_text rows))
  pub works : OnOk result (failed new.out ≡ false)
  pub fails : OnErr result (failed new.out ≡ true)

-- the device of the part took the text of its rows
abbrev pub Took : {D : Type 0} → (D → Option (List ℕ)) → Option (List ℕ) → List (List (List ℕ)) → Part D → Type 0
Took taken before rows p = Appends before (taken p.out) (part_text rows)

-- a row is dealt to the parts that it goes to
pub record Deals {D U : Type 0} (taken : D → Option (List ℕ)) (failed : D → Bool) (goal : Goal) (row : List (List ℕ)) (old new : List (Part D)) (result : Result U DealEnd) : Type 0 where
  pub dealt : (olds : Befores) (hands : Hands) → EachHas taken olds hands old → OnOk result (EachHas taken olds (one_more goal row hands) new)
  pub began : (olds : Befores) (hands : Hands) → EachHas taken olds hands old → OnErr result (EachBegan taken olds (one_more goal row hands) new)
  pub tells : Tells (SomeFailed failed new) (NoneFailed failed new) result

-- each device is given what is kept for it
pub record GivesEach {D U : Type 0} (taken : D → Option (List ℕ)) (failed : D → Bool) (after : Befores → Hands → List (Part D) → Type 0) (old new : List (Part D)) (result : Result U DeviceFault) : Type 0 where
  pub gives : (olds : Befores) (hands : Hands) → EachHas taken olds hands old → OnOk result (after olds hands new)
  pub began : (olds : Befores) (hands : Hands) → EachHas taken olds hands old → OnErr result (EachBegan taken olds hands new)
  pub works : OnOk result (NoneFailed failed new)
  pub fails : OnErr result (SomeFailed failed new)
