use Rattle.std.proofs.Common.{rules, ◌≡◌, ◌∙◌, ◌<◌, ℕ, false, [], length, get_or, nat_eq, eq-eqb, sym, arith}
use Rattle.std.specs.List.{list_all}
use Rattle.std.proofs.lemmas.List.{get_or_read}
use Rattle.wh_base.specs.Heads.{attrs_at}
use Rattle.wh_schema.specs.Warehouse.{numbers}
use Rattle.wh_store.specs.Image.{fit_attrs}
use Rattle.wh_store.proofs.StoredLemmas.{all_below, and_both, and_fails, one_fails}
use Rattle.wh_store.proofs.tables.fit_heads.Goals as goal

pub returns-then-not-fit_attrs : goal.returns-then-not-fit_attrs
returns-then-not-fit_attrs c =
    let stored = c.args.stored.now in
    let tables = c.args.tables.now in
    let k = c.loop-k.k in
    let inside : k < length tables = omega arith in
    let below : k < length stored = omega arith in
    let f : c.fit_attrs.result ≡ false = search rules in
    let rows = c.as_slice.ensures ∙ get_or_read tables k c.index-tables-k.result inside c.index-tables-k.is [] in
    let e : fit_attrs (attrs_at stored k) (get_or tables k []) ≡ false = sym (c.fit_attrs.ensures ∙ (λ i. fit_attrs (c.attrs_at.ensures i) (rows i))) ∙ f in
    let p = λ (j : ℕ). fit_attrs (attrs_at stored j) (get_or tables j []) in
    sym (and_fails (nat_eq (length tables) (length stored)) (list_all p (numbers (length stored))) (one_fails p (length stored) k below e))

pub returns : goal.returns
returns c =
    let stored = c.args.stored.now in
    let tables = c.args.tables.now in
    let p = λ (j : ℕ). fit_attrs (attrs_at stored j) (get_or tables j []) in
    let len : length tables ≡ length stored = omega arith in
    sym (and_both (nat_eq (length tables) (length stored)) (list_all p (numbers (length stored))) (eq-eqb (length tables) (length stored) len) (all_below p (length stored) (λ j below. c.loop-k.invariant j (omega arith))))
