-- What a run over a log feeds a query without clocks, beside what passes of records that are delivered more than once.
use Rattle.std.specs.Prelude.{◌≡◌, ℕ, List, [], ◌∷◌, ◌++◌, map, Option, Some, None, Ok, Err, ⊤}
use Rattle.wsm_record.specs.Event.{Event, Record, Watermark}
use Rattle.wsm_record.specs.Schema.{Declared}
use Rattle.wsm_watermarks.specs.declared.stamp.Stamp.{Stamp}
use Rattle.wsm_semantics.specs.Query.{Query}
use Rattle.wsm_semantics.specs.Deliveries.{passing}
use Rattle.wsm_doubles.specs.Passing.{TextDelivery, TextPassing, Comes, Told, numbered_delivery, passing_texts}
use Rattle.wsm_turns.specs.Turns.{Kept, Spoken, kept, setting_of, stamp_of}
use Rattle.wsm_log_text.specs.LogText.{Said}

-- an event with its identifier as a delivery; a record without one is none
abbrev pub delivery_of : Event → Option (List ℕ) → List TextDelivery
delivery_of (Record key time values) (Some i) = Comes (record { identifier = i; key = key; time = time; values = values }) ∷ []
delivery_of (Record key time values) None = []
delivery_of (Watermark source time) identifier = Told source time ∷ []

-- what lines deliver, the newest first
abbrev pub deliveries : List Said → List TextDelivery
deliveries [] = []
deliveries (Err why ∷ before) = deliveries before
deliveries (Ok x ∷ before) = delivery_of x.event x.identifier ++ deliveries before

-- a record that the query could take, with an identifier
pub record IsSent (d : Declared) (x : Spoken) : Type 0 where
  pub identifier : List ℕ
  pub stamp : Stamp
  pub has : x.identifier ≡ Some identifier
  pub tells : stamp_of d x.event ≡ Some stamp

-- each line says such a record, or none
abbrev pub AreSent : Declared → List Said → Type 0
AreSent d [] = ⊤
AreSent d (Err why ∷ before) = AreSent d before
AreSent d (Ok x ∷ before) = IsSent d x × AreSent d before

-- what the query was fed, and what is remembered
abbrev pub seen : Kept → TextPassing
seen k = record { passed = k.fed; memory = k.memory }

-- it is what passes of the deliveries, also where identifiers are numbers
pub record PassesDeliveries (q : Query) (lines : List Said) : Type 0 where
  pub texts : seen (kept (setting_of None q) lines) ≡ passing_texts q (deliveries lines)
  pub numbers : (kept (setting_of None q) lines).fed ≡ (passing q (map numbered_delivery (deliveries lines))).passed
