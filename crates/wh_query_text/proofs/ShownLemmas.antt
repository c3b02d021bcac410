-- The printed form, the size and the numbers of each kind of expression.
use Rattle.std.proofs.Common.{◌≡◌, ◌<◌, ℕ, suc, ◌+◌, Bool, true, false, ◌&&◌, cond, List, [], ◌∷◌, ◌++◌, map, length, codes, refl, sym, ap, ◌∙◌, append_assoc, arith}
use Rattle.std.specs.Prelude.{nat_lt}
use Rattle.std.specs.List.{flat_map}
use Rattle.std.specs.Cmp.Lexicographic.{bytes_decides}
use Rattle.std.proofs.lemmas.Bool.{ltb-true}
use Rattle.std.proofs.lemmas.List.{length-append, length-map}
use Rattle.wh_base.specs.declared.head.Head.{Head}
use Rattle.wh_base.specs.Columns.{name_eq, place_of}
use Rattle.wh_base.specs.Cond.{nodes}
use Rattle.wh_base.specs.Lines.{separated_by}
use Rattle.wh_expr.specs.declared.expr.Expr.{Expr}
use Rattle.wh_expr.specs.declared.expr.Expr.TheOpen.{Expr-F}
use Rattle.wh_expr.specs.declared.expr.Expr.TheFolds.{fold-roll-Expr}
use Rattle.wh_expr.specs.declared.expr.Expr.TheVariants.{Base, rolls-Base, rolls-Select, rolls-Project, rolls-Rename, rolls-Join, rolls-Union, rolls-Minus}
use Rattle.wh_expr.specs.Meaning.{uses_only, uses_only_at}
use Rattle.wh_expr.specs.Typing.{size, size_at}
use Rattle.wh_grammar.specs.Printed.{printed, further, joined}
use Rattle.wh_schema.specs.declared.spec.Spec.{Spec}
use Rattle.wh_schema.specs.Heads.{heads_of, relation_head, view_head, complement_head}
use Rattle.wh_query_text.specs.declared.raw.Infix.{Infix}
use Rattle.wh_query_text.specs.declared.raw.Infix.TheVariants as infixes
use Rattle.wh_query_text.specs.declared.raw.Prefix.{Prefix}
use Rattle.wh_query_text.specs.declared.raw.Prefix.TheVariants as prefixes
use Rattle.wh_query_text.specs.Printed.{Shown, behind, beside, name_at, names_text, renamings_text, expr_shown, expr_shown_at}
use Rattle.wh_query_text.specs.QueryTexts.{applied, combined, known_names, number_of}
use Rattle.wh_query_text.proofs.Fits.{word_level}

abbrev pub prefix_text : Prefix → List ℕ
prefix_text (prefixes.Project names) = codes "project (" ++ names_text names ++ codes ") "
prefix_text (prefixes.Select c) = codes "select (" ++ printed c ++ codes ") "
prefix_text (prefixes.Rename pairs) = codes "rename (" ++ renamings_text pairs ++ codes ") "

abbrev pub word_text : Infix → List ℕ
word_text infixes.Union = codes " union "
word_text infixes.Minus = codes " minus "
word_text infixes.Join = codes " join "

abbrev pub prefix_nodes : Prefix → ℕ
prefix_nodes (prefixes.Project names) = 0
prefix_nodes (prefixes.Select c) = nodes c
prefix_nodes (prefixes.Rename pairs) = 0

-- ---- each kind of expression

pub shown_base : (heads : List Head) (n : ℕ) → expr_shown heads (Base n) ≡ record { level = 3; text = name_at heads n }
shown_base heads n = ap (expr_shown heads) (sym (rolls-Base n)) ∙ fold-roll-Expr Shown (expr_shown_at heads) (Expr-F.Base n)

pub shown_applied : (heads : List Head) (x : Prefix) (e : Expr) → expr_shown heads (applied x e) ≡ behind (prefix_text x) (expr_shown heads e)
shown_applied heads (prefixes.Project names) e = ap (expr_shown heads) (sym (rolls-Project names e)) ∙ fold-roll-Expr Shown (expr_shown_at heads) (Expr-F.Project names e)
shown_applied heads (prefixes.Select c) e = ap (expr_shown heads) (sym (rolls-Select c e)) ∙ fold-roll-Expr Shown (expr_shown_at heads) (Expr-F.Select c e)
shown_applied heads (prefixes.Rename pairs) e = ap (expr_shown heads) (sym (rolls-Rename pairs e)) ∙ fold-roll-Expr Shown (expr_shown_at heads) (Expr-F.Rename pairs e)

pub shown_combined : (heads : List Head) (o : Infix) (a b : Expr) → expr_shown heads (combined o a b) ≡ beside (word_level o) (expr_shown heads a) (word_text o) (expr_shown heads b)
shown_combined heads infixes.Union a b = ap (expr_shown heads) (sym (rolls-Union a b)) ∙ fold-roll-Expr Shown (expr_shown_at heads) (Expr-F.Union a b)
shown_combined heads infixes.Minus a b = ap (expr_shown heads) (sym (rolls-Minus a b)) ∙ fold-roll-Expr Shown (expr_shown_at heads) (Expr-F.Minus a b)
shown_combined heads infixes.Join a b = ap (expr_shown heads) (sym (rolls-Join a b)) ∙ fold-roll-Expr Shown (expr_shown_at heads) (Expr-F.Join a b)

pub size_applied : (x : Prefix) (e : Expr) → size (applied x e) ≡ prefix_nodes x + size e + 1
size_applied (prefixes.Project names) e = ap size (sym (rolls-Project names e)) ∙ fold-roll-Expr ℕ size_at (Expr-F.Project names e) ∙ omega arith
size_applied (prefixes.Select c) e = ap size (sym (rolls-Select c e)) ∙ fold-roll-Expr ℕ size_at (Expr-F.Select c e)
size_applied (prefixes.Rename pairs) e = ap size (sym (rolls-Rename pairs e)) ∙ fold-roll-Expr ℕ size_at (Expr-F.Rename pairs e) ∙ omega arith

pub size_combined : (o : Infix) (a b : Expr) → size (combined o a b) ≡ size a + size b + 1
size_combined infixes.Union a b = ap size (sym (rolls-Union a b)) ∙ fold-roll-Expr ℕ size_at (Expr-F.Union a b)
size_combined infixes.Minus a b = ap size (sym (rolls-Minus a b)) ∙ fold-roll-Expr ℕ size_at (Expr-F.Minus a b)
size_combined infixes.Join a b = ap size (sym (rolls-Join a b)) ∙ fold-roll-Expr ℕ size_at (Expr-F.Join a b)

pub uses_base : (held : ℕ → Bool) (n : ℕ) → uses_only held (Base n) ≡ held n
uses_base held n = ap (uses_only held) (sym (rolls-Base n)) ∙ fold-roll-Expr Bool (uses_only_at held) (Expr-F.Base n)

pub uses_applied : (held : ℕ → Bool) (x : Prefix) (e : Expr) → uses_only held (applied x e) ≡ uses_only held e
uses_applied held (prefixes.Project names) e = ap (uses_only held) (sym (rolls-Project names e)) ∙ fold-roll-Expr Bool (uses_only_at held) (Expr-F.Project names e)
uses_applied held (prefixes.Select c) e = ap (uses_only held) (sym (rolls-Select c e)) ∙ fold-roll-Expr Bool (uses_only_at held) (Expr-F.Select c e)
uses_applied held (prefixes.Rename pairs) e = ap (uses_only held) (sym (rolls-Rename pairs e)) ∙ fold-roll-Expr Bool (uses_only_at held) (Expr-F.Rename pairs e)

pub uses_combined : (held : ℕ → Bool) (o : Infix) (a b : Expr) → uses_only held (combined o a b) ≡ (uses_only held a && uses_only held b)
uses_combined held infixes.Union a b = ap (uses_only held) (sym (rolls-Union a b)) ∙ fold-roll-Expr Bool (uses_only_at held) (Expr-F.Union a b)
uses_combined held infixes.Minus a b = ap (uses_only held) (sym (rolls-Minus a b)) ∙ fold-roll-Expr Bool (uses_only_at held) (Expr-F.Minus a b)
uses_combined held infixes.Join a b = ap (uses_only held) (sym (rolls-Join a b)) ∙ fold-roll-Expr Bool (uses_only_at held) (Expr-F.Join a b)

-- ---- lists

further_is : {A : Type 0} (text : A → List ℕ) (between : List ℕ) (xs : List A) → flat_map (λ y. between ++ text y) xs ≡ further between (map text xs)
further_is text between [] = refl
further_is text between (x ∷ xs) = ap (λ t. (between ++ text x) ++ t) (further_is text between xs)

pub joined_is : {A : Type 0} (text : A → List ℕ) (between : List ℕ) (x : A) (xs : List A) → joined between (map text (x ∷ xs)) ≡ separated_by text between (x ∷ xs)
joined_is text between x xs = ap (λ t. text x ++ t) (sym (further_is text between xs))

-- ---- the name of a number

place_named : (heads : List Head) (known more : List (List ℕ)) (n : List ℕ) → map (λ h. h.name) heads ≡ known ++ more → place_of known n < length known → name_at heads (place_of known n) ≡ n
place_named heads [] more n is lt = absurd (omega arith)
place_named [] (k ∷ known) more n is lt = absurd cc
place_named (h ∷ heads) (k ∷ known) more n is lt =
    let rest : map (λ h. h.name) heads ≡ known ++ more = cc in
    turn (name_eq n k) refl lt (λ less. place_named heads known more n rest less)
  where
    first : h.name ≡ k
    first = cc

    turn : (b : Bool) → name_eq n k ≡ b → cond (name_eq n k) 0 (suc (place_of known n)) < suc (length known) → (place_of known n < length known → name_at heads (place_of known n) ≡ n) → name_at (h ∷ heads) (cond (name_eq n k) 0 (suc (place_of known n))) ≡ n
    turn true e less behind = rw e (first ∙ sym ((bytes_decides n k).0 e))
    turn false e less behind = let lower : suc (place_of known n) < suc (length known) = rw e at less in rw e (behind (omega arith))

map_names : {A : Type 0} (f : A → Head) (g : A → List ℕ) → ((x : A) → (f x).name ≡ g x) → (xs : List A) (ys : List Head) (zs : List (List ℕ)) → map (λ h. h.name) ys ≡ zs → map (λ h. h.name) (map f xs ++ ys) ≡ map g xs ++ zs
map_names f g same [] ys zs e = e
map_names f g same (x ∷ xs) ys zs e = rw (same x, map_names f g same xs ys zs e) refl

heads_named : (spec : Spec) → map (λ h. h.name) (heads_of spec) ≡ known_names spec ++ map (λ h. h.name) (map complement_head spec.relations)
heads_named spec =
    let complements = map (λ h. h.name) (map complement_head spec.relations) in
    ap (map (λ h. h.name)) (append_assoc (map relation_head spec.relations) (map (view_head spec) spec.views) (map complement_head spec.relations))
    ∙ map_names relation_head (λ r. r.name) (λ r. refl) spec.relations (map (view_head spec) spec.views ++ map complement_head spec.relations) (map (λ v. v.name) spec.views ++ complements)
    (map_names (view_head spec) (λ v. v.name) (λ v. refl) spec.views (map complement_head spec.relations) complements refl)
    ∙ sym (append_assoc (map (λ r. r.name) spec.relations) (map (λ v. v.name) spec.views) complements)

number_turn : (b : Bool) (place unknown : ℕ) → nat_lt (cond b place unknown) unknown ≡ true → b ≡ true
number_turn true place unknown h = refl
number_turn false place unknown h = let lt : unknown < unknown = ltb-true unknown unknown h in absurd (omega arith)

chosen : (b : Bool) (place unknown : ℕ) → b ≡ true → cond b place unknown ≡ place
chosen true place unknown e = refl
chosen false place unknown e = absurd cc

-- the number of a name that a query may use is printed as the name
pub number_named : (spec : Spec) (n : List ℕ) → nat_lt (number_of spec n) (length (heads_of spec)) ≡ true → name_at (heads_of spec) (number_of spec n) ≡ n
number_named spec n h =
    let known = known_names spec in
    let b = nat_lt (place_of known n) (length known) in
    let is : b ≡ true = number_turn b (place_of known n) (length (heads_of spec)) h in
    ap (name_at (heads_of spec)) (chosen b (place_of known n) (length (heads_of spec)) is)
    ∙ place_named (heads_of spec) known (map (λ h. h.name) (map complement_head spec.relations)) n (heads_named spec) (ltb-true (place_of known n) (length known) is)

-- such a number is that of a relation or a view
pub number_known : (spec : Spec) (n : List ℕ) → nat_lt (number_of spec n) (length (heads_of spec)) ≡ true → nat_lt (number_of spec n) (length spec.relations + length spec.views) ≡ true
number_known spec n h =
    let known = known_names spec in
    let b = nat_lt (place_of known n) (length known) in
    let is : b ≡ true = number_turn b (place_of known n) (length (heads_of spec)) h in
    let count : length known ≡ length spec.relations + length spec.views =
    omega (arith, length-append (map (λ r. r.name) spec.relations) (map (λ v. v.name) spec.views), length-map spec.relations (λ r. r.name), length-map spec.views (λ v. v.name)) in
    ap (λ k. nat_lt k (length spec.relations + length spec.views)) (chosen b (place_of known n) (length (heads_of spec)) is)
    ∙ ap (λ m. nat_lt (place_of known n) m) (sym count)
    ∙ is
