-- What a lawful program holds, part by part.
use Rattle.std.proofs.Common.{leb, ◌≡◌, ◌≤◌, true, ◌&&◌, length, List, []}
use Rattle.std.specs.List.{list_all}
use Rattle.std.proofs.lemmas.Bool.{leb-true, and_parts}
use Rattle.wsm_record.specs.Name.{is_between}
use Rattle.wsm_record.specs.Schema.{Declared, is_name_list, are_fields_after, are_sources, is_schema}
use Rattle.wsm_program.specs.Program.{Header, Program, is_span, is_size, is_shape, is_column, is_limited, is_timely, is_clock, is_firing, is_row, is_budget, is_header, is_instr, is_section, is_program, section, is_time}
use Rattle.wsm_record.specs.Modes.{may_write}
use Rattle.wsm_program.specs.declared.instr.Instr.{Instr}
use Rattle.wsm_program.specs.declared.instr.SectionId.{SectionId}
use Rattle.wsm_program.specs.declared.instr.SectionId.TheVariants.{Where, Update, Fire}

pub few_fields : (s : Declared) → is_schema s ≡ true → leb (length s.fields) 16 ≡ true
unfolding is_schema
few_fields s h =
    let a = and_parts (is_name_list s.keys) (leb (length s.fields) 16 && (are_fields_after [] s.fields && are_sources s.sources)) h in
    (and_parts (leb (length s.fields) 16) (are_fields_after [] s.fields && are_sources s.sources) a.1).0

-- what is_header holds, part by part
pub record HeaderParts (h : Header) : Type 0 where
  pub schema : is_schema h.schema ≡ true
  pub start : is_time h.clock.start ≡ true
  pub skew : is_span h.clock.skew ≡ true
  pub lateness : is_span h.clock.lateness ≡ true
  pub records : is_size h.clock.records ≡ true
  pub timely : is_timely h.clock.from_window h.shape ≡ true
  pub shape : is_shape h.shape ≡ true
  pub early : is_span h.early ≡ true
  pub late : is_span h.late ≡ true
  pub form : may_write h.mode h.form ≡ true
  pub kinds : leb (length h.kinds) 16 ≡ true
  pub count : is_between 1 16 (length h.columns) ≡ true
  pub columns : list_all (is_column h.schema) h.columns ≡ true
  pub budget : is_budget h.budget ≡ true

pub header_parts : (h : Header) → is_header h ≡ true → HeaderParts h
unfolding is_header
header_parts h e =
    let p = and_parts (is_schema h.schema) (is_clock h && (is_firing h && (is_row h && is_budget h.budget))) e in
    let q = and_parts (is_clock h) (is_firing h && (is_row h && is_budget h.budget)) p.1 in
    let r = and_parts (is_firing h) (is_row h && is_budget h.budget) q.1 in
    let s = and_parts (is_row h) (is_budget h.budget) r.1 in
    let c0 = and_parts (is_limited h.clock) (is_timely h.clock.from_window h.shape) q.0 in
    let c1 = and_parts (is_time h.clock.start) (is_span h.clock.skew && (is_span h.clock.lateness && is_size h.clock.records)) c0.0 in
    let c2 = and_parts (is_span h.clock.skew) (is_span h.clock.lateness && is_size h.clock.records) c1.1 in
    let c3 = and_parts (is_span h.clock.lateness) (is_size h.clock.records) c2.1 in
    let f1 = and_parts (is_shape h.shape) (is_span h.early && (is_span h.late && may_write h.mode h.form)) r.0 in
    let f2 = and_parts (is_span h.early) (is_span h.late && may_write h.mode h.form) f1.1 in
    let f3 = and_parts (is_span h.late) (may_write h.mode h.form) f2.1 in
    let r1 = and_parts (leb (length h.kinds) 16) (is_between 1 16 (length h.columns) && list_all (is_column h.schema) h.columns) s.0 in
    let r2 = and_parts (is_between 1 16 (length h.columns)) (list_all (is_column h.schema) h.columns) r1.1 in
    record { schema = p.0; start = c1.0; skew = c2.0; lateness = c3.0; records = c3.1; timely = c0.1; shape = f1.0; early = f2.0; late = f3.0; form = f3.1; kinds = r1.0; count = r2.0; columns = r2.1; budget = s.1 }

pub header_schema : (h : Header) → is_header h ≡ true → is_schema h.schema ≡ true
header_schema h e = (header_parts h e).schema

pub program_header : (p : Program) → is_program p ≡ true → is_header p.header ≡ true
unfolding is_program
program_header p h = (and_parts (is_header p.header) (is_section p.header p.selection && (is_section p.header p.update && is_section p.header p.fire)) h).0

pub short_section : (h : Header) (code : List Instr) → is_section h code ≡ true → length code ≤ 1000
unfolding is_section
short_section h code e = leb-true _ _ (and_parts (leb (length code) 1000) (list_all (is_instr h) code) e).0

pub few_instrs : (p : Program) (id : SectionId) → is_program p ≡ true → length (section p id) ≤ 1000
unfolding is_program
few_instrs p id h =
    let a = and_parts (is_header p.header) (is_section p.header p.selection && (is_section p.header p.update && is_section p.header p.fire)) h in
    let b = and_parts (is_section p.header p.selection) (is_section p.header p.update && is_section p.header p.fire) a.1 in
    let c = and_parts (is_section p.header p.update) (is_section p.header p.fire) b.1 in
    elim id as (λ i. length (section p i) ≤ 1000) [ Where ↦ short_section p.header p.selection b.0 | Update ↦ short_section p.header p.update c.0 | Fire ↦ short_section p.header p.fire c.1 ]
