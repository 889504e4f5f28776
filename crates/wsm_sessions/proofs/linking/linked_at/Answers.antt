use Rattle.std.proofs.Common.{rules, ◌≡◌, ◌+◌, ◌<◌, ◌∷◌, [], ap, length, List, sym, ◌∙◌}
use Rattle.wsm_windows.specs.declared.window.Window.{Window}
use Rattle.std.proofs.lemmas.Option.{get_or_from_slice_get}
use Rattle.wsm_sessions.specs.declared.placed.Placed.TheVariants.{Extends, Joins}
use Rattle.wsm_sessions.specs.Placing.{placed}
use Rattle.wsm_sessions.proofs.SessionEdits.{apart_of, extended, joined, linked_one, linked_two}
use Rattle.wsm_sessions.proofs.linking.linked_at.Goals as goal
use Rattle.wsm_sessions.proofs.linking.linked_at.Goals.{In-Extends, In-Joins}

extends : (c : In-Extends) → placed c.args.gap c.args.time c.args.windows.now.items ≡ Extends c.in-Extends.i
extends c = sym c.requires.found ∙ c.in-Extends.is

joins : (c : In-Joins) → placed c.args.gap c.args.time c.args.windows.now.items ≡ Joins c.in-Joins.i
joins c = sym c.requires.found ∙ c.in-Joins.is

-- the window that is extended is there
one_there : (c : In-Extends) → c.in-Extends.i < length c.args.windows.now.items
one_there c =
    let ws : List Window = c.args.windows.now.items in
    (extended c.args.gap c.requires.gap_low c.args.time ws (apart_of c.args.gap c.requires.gap_low ws c.requires.sessions) _ (extends c)).0

-- both windows that are joined are there
both_there : (c : In-Joins) → c.in-Joins.i + 1 < length c.args.windows.now.items
both_there c =
    let ws : List Window = c.args.windows.now.items in
    (joined c.args.gap c.requires.gap_low c.args.time ws (apart_of c.args.gap c.requires.gap_low ws c.requires.sessions) _ (joins c)).0

pub get-requires : goal.get-requires
get-requires c = one_there (goal.at.get-requires c).In-Extends

pub get-requires-in-Joins : goal.get-requires-in-Joins
get-requires-in-Joins c = let inside = both_there (goal.at.get-requires-in-Joins c).In-Joins in search rules

pub get-requires-in-Joins-2 : goal.get-requires-in-Joins-2
get-requires-in-Joins-2 c = both_there (goal.at.get-requires-in-Joins-2 c).In-Joins

pub returns-in-Extends : goal.returns-in-Extends
returns-in-Extends c =
    let ws : List Window = c.args.windows.now.items in
    let apart = apart_of c.args.gap c.requires.gap_low ws c.requires.sessions in
    let w = c.get.result in
    let read = get_or_from_slice_get ws c.in-Extends.i w w c.get.ensures in
    ap (λ (v : Window). v ∷ []) (sym read) ∙ linked_one c.args.gap c.requires.gap_low c.args.time ws apart _ (extends (goal.at.returns-in-Extends c).In-Extends) w

pub returns-in-Joins : goal.returns-in-Joins
returns-in-Joins c =
    let ws : List Window = c.args.windows.now.items in
    let apart = apart_of c.args.gap c.requires.gap_low ws c.requires.sessions in
    let w = c.get-in-Joins.result in
    let v = c.get-in-Joins-2.result in
    let first = get_or_from_slice_get ws c.in-Joins.i w w c.get-in-Joins.ensures in
    let second = get_or_from_slice_get ws (c.in-Joins.i + 1) v v c.get-in-Joins-2.ensures in
    (λ k. sym first k ∷ sym second k ∷ []) ∙ linked_two c.args.gap c.requires.gap_low c.args.time ws apart _ (joins (goal.at.returns-in-Joins c).In-Joins) w v
