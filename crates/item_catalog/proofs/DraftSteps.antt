-- Declarations that are added to a draft in turn, none with a fault: their records are without fault, and spell the deck of the
-- draft.
use Rattle.std.proofs.Common.{◌≡◌, ◌++◌, ◌∷◌, [], ℕ, List, None, refl, sym, ap, ◌∙◌, subst, append_assoc, fold, length, map, arith}
use Rattle.std.proofs.lemmas.List.{append-nil, map-append}
use Rattle.air_model.specs.Rows.{rows_text}
use Rattle.item_catalog.specs.FirstFaults.{NoneBefore}
use Rattle.item_catalog.specs.RecordKinds.{first_of}
use Rattle.item_catalog.specs.Declarations.{Declaration, spelled_declaration}
use Rattle.item_catalog.specs.Declarations as e
use Rattle.item_catalog.specs.Private.Drafts.{DraftValue, deck_from, draft_of, draft_tests, record_kind, with_declaration}
use Rattle.item_catalog.specs.Faults.{end_tests, declarations_in, kinds_at}
use Rattle.item_catalog.specs.Grammar.{Spells}
use Rattle.item_catalog.specs.Parts.{disk_parts_in, items_in, replans_in, set_in}
use Rattle.item_catalog.specs.declared.deck.draft.settings.Setting.TheVariants as setting
use Rattle.item_catalog.proofs.DraftLemmas.{draft_more}
use Rattle.item_catalog.proofs.PlaceLemmas.{end_of, declarations_more, none_added}
use Rattle.item_catalog.proofs.ReadingLemmas.{read_deck_is}
use Rattle.item_catalog.proofs.WrittenRows.{Plain, plain_map, written_rows}
use Rattle.item_catalog.specs.DeckTexts.{declaration_row}
use Rattle.item_catalog.proofs.DeclarationTexts.{Fits, declaration_spelled}

-- ---- drafts

-- A draft with more declarations.
abbrev pub with_all : DraftValue → List Declaration → DraftValue
with_all d xs = fold with_declaration d xs

-- The numbers of each declaration fit, and no kind applies to it after the declarations before it.
abbrev pub Passes : DraftValue → List Declaration → Type 0
Passes d [] = Unit {0}
Passes d (x ∷ xs) = Fits x × (first_of (draft_tests d x) ≡ None) × Passes (with_declaration d x) xs

pub with_both : (d : DraftValue) (xs ys : List Declaration) → with_all d (xs ++ ys) ≡ with_all (with_all d xs) ys
with_both d [] ys = refl
with_both d (x ∷ xs) ys = with_both (with_declaration d x) xs ys

pub passes_both : (d : DraftValue) (xs ys : List Declaration) → Passes d xs → Passes (with_all d xs) ys → Passes d (xs ++ ys)
passes_both d [] ys first more = more
passes_both d (x ∷ xs) ys first more = (first.0, first.1, passes_both (with_declaration d x) xs ys first.2 more)

pub drafted : (done xs : List Declaration) → draft_of (done ++ xs) ≡ with_all (draft_of done) xs
drafted done [] = ap draft_of (append-nil done)
drafted done (x ∷ xs) =
    ap draft_of (sym (append_assoc done (x ∷ []) xs)) ∙ drafted (done ++ x ∷ []) xs ∙ ap (λ d. with_all d xs) (draft_more done x)

-- ---- their records

-- The records of declarations are without fault, and spell these declarations.
record Stands (es : List Declaration) : Type 0 where
  faultless : NoneBefore (kinds_at (map declaration_row es)) (length (map declaration_row es))
  declarations : declarations_in (map declaration_row es) ≡ es

none_stand : Stands []
none_stand = record { faultless = λ place below. absurd (omega arith); declarations = refl }

step : (es : List Declaration) (x : Declaration) → Stands es → Fits x → first_of (draft_tests (draft_of es) x) ≡ None → Stands (es ++ x ∷ [])
step es x s fits none =
    let rows = map declaration_row es in let row = declaration_row x in
    let spelled = declaration_spelled x fits in
    let judge : record_kind (draft_of (declarations_in rows)) (spelled_declaration row) ≡ None = ap (λ l. record_kind (draft_of l) (spelled_declaration row)) s.declarations ∙ ap (record_kind (draft_of es)) spelled ∙ none in
    let more : map declaration_row (es ++ x ∷ []) ≡ rows ++ row ∷ [] = map-append declaration_row es (x ∷ []) in
    let P : List (List (List ℕ)) → Type 0 = λ rows. NoneBefore (kinds_at rows) (length rows) in
    record {
      faultless = subst P (sym more) (none_added rows row s.faultless judge);
      declarations = ap declarations_in more ∙ declarations_more rows row x spelled ∙ ap (λ l. l ++ x ∷ []) s.declarations;
    }

stand : (done xs : List Declaration) → Stands done → Passes (draft_of done) xs → Stands (done ++ xs)
stand done [] s p = rw (append-nil done) s
stand done (x ∷ xs) s p =
    let here = step done x s p.0 p.1 in
    let rest = subst (λ d. Passes d xs) (sym (draft_more done x)) p.2 in
    rw (← append_assoc done (x ∷ []) xs) (stand (done ++ x ∷ []) xs here rest)

-- ---- their text

plain_declaration : (x : Declaration) → Plain (declaration_row x)
plain_declaration (e.DeclaredItem id value rate) = λ rest. refl
plain_declaration (e.DeclaredDisk size freq) = λ rest. refl
plain_declaration (e.DeclaredReplan cycle sizes freqs) = λ rest. refl
plain_declaration (e.DeclaredUpdate by reads writes) = λ rest. refl
plain_declaration (e.DeclaredReader room age tries) = λ rest. refl
plain_declaration (e.DeclaredQuery reader items) = λ rest. refl
plain_declaration (e.DeclaredScript events) = λ rest. refl
plain_declaration (e.DeclaredSetting (setting.Policy policy)) = λ rest. refl
plain_declaration (e.DeclaredSetting (setting.Number name value)) = λ rest. refl

pub declarations_spell : (es : List Declaration) (d : DraftValue) → draft_of es ≡ d → Passes (draft_of []) es → first_of (end_tests (length d.items) d.disks d.replans d.set) ≡ None
    → Spells (rows_text (map declaration_row es)) (deck_from d)
declarations_spell es d same p end =
    let s = stand [] es none_stand p in
    let rows = map declaration_row es in
    let at_end : end_of rows ≡ None = ap (λ l. first_of (end_tests (length (items_in l)) (disk_parts_in l) (replans_in l) (set_in l))) s.declarations ∙ ap (λ (d : DraftValue). first_of (end_tests (length d.items) d.disks d.replans d.set)) same ∙ end in
    let spelled = read_deck_is (rows_text rows) rows s.faultless (written_rows rows (plain_map declaration_row plain_declaration es) ∙ sym (append-nil rows)) at_end in
    subst (λ d. Spells (rows_text rows) (deck_from d)) (ap draft_of s.declarations ∙ same) spelled
