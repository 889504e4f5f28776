-- What holds of a world, whatever happened.
use Rattle.std.proofs.Common.{◌≡◌, ◌∙◌, subst, ℕ, ◌+◌, ◌≤◌, max, List, [], ◌∷◌, ◌++◌, length, true, refl, sym, ap, arith, append_assoc}
use Rattle.wsm_protocol.specs.Runs.{Run, IsRun, Text}
use Rattle.wsm_protocol.specs.World.{Item, Journal, Live, Down, Opening, Renamed, Ready, Appended, World, count, first_world}
use Rattle.wsm_protocol.specs.Laws.{IsFrontOf}
use Rattle.wsm_protocol.proofs.Lists.{IsStream, stream_grows}
use Rattle.wsm_protocol.proofs.Standing.{Fits, fits_grows, told_grows}

-- a table of a log's lines
pub record TableHolds (r : Run) (rows table : List Text) (settled taken : ℕ) : Type 0 where
  pub is : IsFrontOf table (r.told rows)
  pub on_disk : settled ≤ length table
  pub known : taken ≤ settled

-- a pipe, whose first line stands behind so many
pub record PipeHolds (r : Run) (rows table : List Text) (pipe : List Item) (at : ℕ) : Type 0 where
  pub behind : at ≤ length table
  pub stream : IsStream (r.told rows) at pipe

-- a journal by which a process may begin: it cut no line that the table hasn't for good, and came to as many
pub record Covers (r : Run) (rows : List Text) (settled least : ℕ) (j : Journal) : Type 0 where
  pub fits : Fits r rows j
  pub begins : j.lines ≤ settled
  pub covers : least ≤ count r j

abbrev pub AllCover : Run → List Text → ℕ → ℕ → List Journal → Type 0
AllCover r rows settled least [] = Unit {0}
AllCover r rows settled least (j ∷ js) = Covers r rows settled least j × AllCover r rows settled least js

-- what each phase has of journals
abbrev pub Beside : Run → List Text → ℕ → ℕ → Journal → List Journal → Live → Type 0
Beside r rows settled least seen others Down = Unit {0}
Beside r rows settled least seen others (Opening next out) = Covers r rows settled least next × (count r next ≡ count r seen)
Beside r rows settled least seen others (Renamed out) = Unit {0}
Beside r rows settled least seen others (Ready out) = others ≡ []
Beside r rows settled least seen others (Appended out) = Unit {0}

-- what is to be handed out is all behind these lines
abbrev pub ToCome : Run → List Text → Journal → ℕ → List Item → Type 0
ToCome r rows seen from out = IsStream (r.told rows) from out × (from + length out ≡ count r seen)

abbrev pub Out : Run → List Text → Journal → ℕ → Live → Type 0
Out r rows seen from Down = Unit {0}
Out r rows seen from (Opening next out) = ToCome r rows seen from out
Out r rows seen from (Renamed out) = ToCome r rows seen from out
Out r rows seen from (Ready out) = ToCome r rows seen from out
Out r rows seen from (Appended out) = ToCome r rows seen from out

-- lines that a journal must have come to: those of the table and of the pipe
abbrev pub least_of : List Text → List Item → ℕ → ℕ
least_of table pipe at = max (length table) (at + length pipe)

pub record Good (r : Run) (w : World) : Type 0 where
  pub at : ℕ
  pub table : TableHolds r w.synced w.table w.settled w.taken
  pub pipe : PipeHolds r w.synced w.table w.pipe at
  pub seen : Covers r w.synced w.settled (least_of w.table w.pipe at) w.seen
  pub others : AllCover r w.synced w.settled (least_of w.table w.pipe at) w.others
  pub beside : Beside r w.synced w.settled (least_of w.table w.pipe at) w.seen w.others w.live
  pub out : w.is_read ≡ true → Out r w.synced w.seen (at + length w.pipe) w.live

-- ---- what a journal covers, under other bounds

pub covers_with : (r : Run) (rows : List Text) (settled settled' least least' : ℕ) (j : Journal) → settled ≤ settled' → least' ≤ least → Covers r rows settled least j → Covers r rows settled' least' j
covers_with r rows settled settled' least least' j more less c =
    record { fits = c.fits; begins = omega (arith, more, c.begins); covers = omega (arith, less, c.covers) }

pub all_cover_with : (r : Run) (rows : List Text) (settled settled' least least' : ℕ) (js : List Journal) → settled ≤ settled' → least' ≤ least → AllCover r rows settled least js → AllCover r rows settled' least' js
all_cover_with r rows settled settled' least least' [] more less c = tt
all_cover_with r rows settled settled' least least' (j ∷ js) more less c = (covers_with r rows settled settled' least least' j more less c.0, all_cover_with r rows settled settled' least least' js more less c.1)

pub beside_with : (r : Run) (rows : List Text) (settled settled' least least' : ℕ) (seen : Journal) (others : List Journal) (live : Live) → settled ≤ settled' → least' ≤ least → Beside r rows settled least seen others live → Beside r rows settled' least' seen others live
beside_with r rows settled settled' least least' seen others Down more less b = tt
beside_with r rows settled settled' least least' seen others (Opening next out) more less b = (covers_with r rows settled settled' least least' next more less b.0, b.1)
beside_with r rows settled settled' least least' seen others (Renamed out) more less b = tt
beside_with r rows settled settled' least least' seen others (Ready out) more less b = b
beside_with r rows settled settled' least least' seen others (Appended out) more less b = tt

-- ---- a longer log

module _ (r : Run) (good : IsRun r) (rows more : List Text) where
  streams_on : (at : ℕ) (items : List Item) → IsStream (r.told rows) at items → IsStream (r.told (rows ++ more)) at items
  streams_on at items h =
      let grown = told_grows r good rows more in
      subst (λ t. IsStream t at items) (sym grown.1) (stream_grows (r.told rows) grown.0 at items h)

  pub table_grows : (table : List Text) (settled taken : ℕ) → TableHolds r rows table settled taken → TableHolds r (rows ++ more) table settled taken
  table_grows table settled taken h =
      let grown = told_grows r good rows more in
      record { is = (h.is.0 ++ grown.0, grown.1 ∙ ap (λ t. t ++ grown.0) h.is.1 ∙ append_assoc table h.is.0 grown.0); on_disk = h.on_disk; known = h.known }

  pub pipe_grows : (table : List Text) (pipe : List Item) (at : ℕ) → PipeHolds r rows table pipe at → PipeHolds r (rows ++ more) table pipe at
  pipe_grows table pipe at h = record { behind = h.behind; stream = streams_on at pipe h.stream }

  pub covers_grows : (settled least : ℕ) (j : Journal) → Covers r rows settled least j → Covers r (rows ++ more) settled least j
  covers_grows settled least j c = record { fits = fits_grows r good rows more j c.fits; begins = c.begins; covers = c.covers }

  pub all_cover_grows : (settled least : ℕ) (js : List Journal) → AllCover r rows settled least js → AllCover r (rows ++ more) settled least js
  all_cover_grows settled least [] c = tt
  all_cover_grows settled least (j ∷ js) c = (covers_grows settled least j c.0, all_cover_grows settled least js c.1)

  pub beside_grows : (settled least : ℕ) (seen : Journal) (others : List Journal) (live : Live) → Beside r rows settled least seen others live → Beside r (rows ++ more) settled least seen others live
  beside_grows settled least seen others Down b = tt
  beside_grows settled least seen others (Opening next out) b = (covers_grows settled least next b.0, b.1)
  beside_grows settled least seen others (Renamed out) b = tt
  beside_grows settled least seen others (Ready out) b = b
  beside_grows settled least seen others (Appended out) b = tt

  to_come_grows : (seen : Journal) (from : ℕ) (out : List Item) → ToCome r rows seen from out → ToCome r (rows ++ more) seen from out
  to_come_grows seen from out h = (streams_on from out h.0, h.1)

  pub out_grows : (seen : Journal) (from : ℕ) (live : Live) → Out r rows seen from live → Out r (rows ++ more) seen from live
  out_grows seen from Down h = tt
  out_grows seen from (Opening next out) h = to_come_grows seen from out h
  out_grows seen from (Renamed out) h = to_come_grows seen from out h
  out_grows seen from (Ready out) h = to_come_grows seen from out h
  out_grows seen from (Appended out) h = to_come_grows seen from out h

-- ---- before the first row

pub good_first : (r : Run) → IsRun r → Good r first_world
good_first r good =
    let nothing : length (r.told []) ≡ 0 = ap length good.none_told in
    let grown = told_grows r good [] [] in
    record {
      at = 0;
      table = record { is = (r.told [], refl); on_disk = omega arith; known = omega arith };
      pipe = record { behind = omega arith; stream = tt };
      seen = record {
        fits = record { front = []; back = []; is = refl; stands = good.none_stands; size = refl; lines = sym nothing };
        begins = omega arith;
        covers = omega arith;
      };
      others = tt;
      beside = tt;
      out = λ read. tt;
    }
