use Rattle.std.proofs.Common.{◌≡◌, [], ◌∷◌, length, Some, None, sym, ap, ◌∙◌, arith}
use Rattle.json.specs.Token.{Token}
use Rattle.json.specs.Json.{array, object, max_depth, members, parse_map, value}
use Rattle.json.specs.Reads.{token_of, skip_items}
use Rattle.json.specs.Value.{items_view}
use Rattle.json.proofs.Grammar.{left_none, value_is, value-begin_array, value-begin_object}
use Rattle.json.proofs.Trees.{view-Array, view-Object}
use Rattle.wsm_lines.specs.Members.{sifted}
use Rattle.wsm_lines.proofs.PassingLemmas.{sifted_array, sifted_object, view_bool, view_null, view_number, view_string}
use Rattle.wsm_lines.proofs.members.read_value.Goals as goal

pub returns-in_err-token-clause-invalid : goal.returns-in_err-token-clause-invalid
returns-in_err-token-clause-invalid c invalid =
    let empty : c.args.reader.now ≡ [] = grind arith in
    ap (value max_depth) empty ∙ value_is max_depth []

pub returns-in_err-read_members-in-BeginObject-clause-invalid : goal.returns-in_err-read_members-in-BeginObject-clause-invalid
returns-in_err-read_members-in-BeginObject-clause-invalid c invalid =
    let first : c.args.reader.now ≡ token_of c.in_ok-token.token ∷ c.next.new.self = grind arith in
    let opened = ap (value max_depth) (first ∙ ap (λ k. token_of k ∷ c.next.new.self) c.in-BeginObject.is) ∙ value-begin_object max_depth c.next.new.self (omega arith) in
    let failed : members (value 127) (length c.next.new.self) c.next.new.self ≡ None = grind arith in
    opened ∙ ap (parse_map object) failed

pub returns-in_err-skip_items-in-BeginArray-clause-invalid : goal.returns-in_err-skip_items-in-BeginArray-clause-invalid
returns-in_err-skip_items-in-BeginArray-clause-invalid c invalid =
    let first : c.args.reader.now ≡ token_of c.in_ok-token.token ∷ c.next.new.self = grind arith in
    let opened = ap (value max_depth) (first ∙ ap (λ k. token_of k ∷ c.next.new.self) c.in-BeginArray.is) ∙ value-begin_array max_depth c.next.new.self (omega arith) in
    let failed : skip_items 127 c.next.new.self ≡ None = c.in_err-skip_items-in-BeginArray.ensures in
    opened ∙ ap (parse_map array) (left_none _ failed)

pub returns-in_ok-read_members-in-BeginObject-clause-ok : goal.returns-in_ok-read_members-in-BeginObject-clause-ok
returns-in_ok-read_members-in-BeginObject-clause-ok c =
    let b = c.args.filter.now.buckets in
    let first : c.args.reader.now ≡ token_of c.in_ok-token.token ∷ c.next.new.self = grind arith in
    let opened = ap (value max_depth) (first ∙ ap (λ k. token_of k ∷ c.next.new.self) c.in-BeginObject.is) ∙ value-begin_object max_depth c.next.new.self (omega arith) in
    let found = c.in_ok-read_members-in-BeginObject in
    ap (parse_map (sifted b)) opened ∙ sifted_object b _ ∙ ap (parse_map object) found.ensures.ok ∙ ap (λ j. Some (j, c.read_members.new.reader)) (sym (view-Object found.field-0))

pub returns-in_ok-skip_items-in-BeginArray-clause-ok : goal.returns-in_ok-skip_items-in-BeginArray-clause-ok
returns-in_ok-skip_items-in-BeginArray-clause-ok c =
    let b = c.args.filter.now.buckets in
    let first : c.args.reader.now ≡ token_of c.in_ok-token.token ∷ c.next.new.self = grind arith in
    let opened = ap (value max_depth) (first ∙ ap (λ k. token_of k ∷ c.next.new.self) c.in-BeginArray.is) ∙ value-begin_array max_depth c.next.new.self (omega arith) in
    let passed : skip_items 127 c.next.new.self ≡ Some c.skip_items.new.reader = c.in_ok-skip_items-in-BeginArray.ensures in
    let seen = view-Array c.new.result ∙ ap (λ vs. array (items_view vs)) c.new.ensures.items in
    ap (parse_map (sifted b)) opened ∙ sifted_array b _ c.skip_items.new.reader passed ∙ ap (λ j. Some (j, c.skip_items.new.reader)) (sym seen)

pub returns-in-String-clause-ok : goal.returns-in-String-clause-ok
returns-in-String-clause-ok c =
    let first : c.args.reader.now ≡ token_of c.in_ok-token.token ∷ c.next.new.self = grind arith in
    let is : c.args.reader.now ≡ Token.string c.in-String.text.now ∷ c.next.new.self = grind (arith, first) in
    ap (parse_map (sifted c.args.filter.now.buckets)) (ap (value max_depth) is ∙ value_is max_depth _) ∙ ap (λ j. Some (j, c.next.new.self)) (sym (view_string _ c.in-String.text))

pub returns-in-Number-clause-ok : goal.returns-in-Number-clause-ok
returns-in-Number-clause-ok c =
    let first : c.args.reader.now ≡ token_of c.in_ok-token.token ∷ c.next.new.self = grind arith in
    let is : c.args.reader.now ≡ Token.number c.in-Number.text.now ∷ c.next.new.self = grind (arith, first) in
    ap (parse_map (sifted c.args.filter.now.buckets)) (ap (value max_depth) is ∙ value_is max_depth _) ∙ ap (λ j. Some (j, c.next.new.self)) (sym (view_number _ c.in-Number.text))

pub returns-in-Bool-clause-ok : goal.returns-in-Bool-clause-ok
returns-in-Bool-clause-ok c =
    let first : c.args.reader.now ≡ token_of c.in_ok-token.token ∷ c.next.new.self = grind arith in
    let is : c.args.reader.now ≡ Token.boolean c.in-Bool.truth ∷ c.next.new.self = grind (arith, first) in
    ap (parse_map (sifted c.args.filter.now.buckets)) (ap (value max_depth) is ∙ value_is max_depth _) ∙ ap (λ j. Some (j, c.next.new.self)) (sym (view_bool _ c.in-Bool.truth))

pub returns-in-Null-clause-ok : goal.returns-in-Null-clause-ok
returns-in-Null-clause-ok c =
    let first : c.args.reader.now ≡ token_of c.in_ok-token.token ∷ c.next.new.self = grind arith in
    let is : c.args.reader.now ≡ Token.null ∷ c.next.new.self = grind (arith, first) in
    ap (parse_map (sifted c.args.filter.now.buckets)) (ap (value max_depth) is ∙ value_is max_depth _) ∙ ap (λ j. Some (j, c.next.new.self)) (sym (view_null _))

pub returns-in-EndObject-clause-invalid : goal.returns-in-EndObject-clause-invalid
returns-in-EndObject-clause-invalid c invalid =
    let first : c.args.reader.now ≡ token_of c.in_ok-token.token ∷ c.next.new.self = grind arith in
    rw (value_is max_depth c.args.reader.now, first) (grind arith)
