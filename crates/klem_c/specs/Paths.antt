-- The calls on names and paths. A path is KLEM_PATH bytes: the count in two bytes, low first, and four bytes for each component.
use Rattle.std.specs.Prelude.{ℕ, ◌+◌, ◌*◌, ◌/◌, ◌%◌, Bool, ◌&&◌, cond, Option, Some, None, List, [], ◌∷◌, length, get_or, drop}
use Rattle.pkg_length.specs.Refusal.{Answer, gives, refuses, and_then}
use Rattle.name_object.specs.Component.{Component, root, component_limit}
use Rattle.name_object.specs.Memory.{Named, named, told, path_in_answer}
use Rattle.name_object.specs.Name.{name_string_answer}
use Rattle.name_object.specs.declared.AmlName.{AmlName}
use Rattle.path.specs.Normal.{absolute, is_normal_path, one_segment, normal, resolved, parent_of, segment_path}
use Rattle.pkg_length.specs.Wrote.{Wrote, wrote}
use Rattle.path.specs.Text.{from_text, text_within}
use Rattle.klem_c.specs.Result.{result_words, letters, result_of, valued, nothing, one, flag, sized, After, leaves, answers}

-- KLEM_PATH: the bytes of a path
abbrev pub path_size : ℕ
path_size = 130

-- the bytes of its components
abbrev pub path_room : ℕ
path_room = 128

abbrev pub path_at : List ℕ → AmlName
path_at bs = record { count = get_or bs 0 0 + 256 * get_or bs 1 0; bytes = drop 2 bs }

-- the path that a slice holds, where it has its length
abbrev pub path_given : List ℕ → Option AmlName
path_given bs = cond (sized path_size bs) (Some (path_at bs)) None

abbrev pub path_bytes : AmlName → List ℕ
path_bytes name = name.count % 256 ∷ name.count / 256 % 256 ∷ name.bytes

-- the slices of a call: its result and one path, two, or three, `out` counted
abbrev pub fits_path : List ℕ → List ℕ → Bool
fits_path result a = sized result_words result && sized path_size a

abbrev pub fits_two : List ℕ → List ℕ → List ℕ → Bool
fits_two result a b = sized result_words result && (sized path_size a && sized path_size b)

abbrev pub fits_three : List ℕ → List ℕ → List ℕ → List ℕ → Bool
fits_three result a b c = sized result_words result && (sized path_size a && (sized path_size b && sized path_size c))

-- the path that is given, as it stands in memory; a refusal leaves `out` as it was
abbrev pub out_of : {A : Type 0} → (A → AmlName) → List ℕ → Answer A → List ℕ
out_of memory out (gives v) = path_bytes (memory v)
out_of memory out (refuses n p) = out

-- a call that is lent `out`, and gives a path and a value beside it
abbrev pub names : {A : Type 0} → Bool → List ℕ → List ℕ → (A → List ℕ) → Answer (Named A) → After
names fit result out f a =
    leaves fit result out (result_of (valued (λ v. f v.value) (told component_limit a))) (out_of (λ v. v.memory) out (told component_limit a))

abbrev pub klem_name_string_after : List ℕ → List ℕ → List ℕ → After
klem_name_string_after input out result = names (fits_path result out) result out one (name_string_answer component_limit input)

-- a call that gives a path alone
abbrev pub paths : Bool → List ℕ → List ℕ → Answer (List Component) → After
paths fit result out a = leaves fit result out (result_of (valued nothing (named component_limit a))) (out_of (λ n. n) out (named component_limit a))

abbrev pub klem_root_after : List ℕ → List ℕ → After
klem_root_after out result = paths (fits_path result out) result out (gives (root ∷ []))

abbrev pub klem_from_name_seg_after : List ℕ → List ℕ → List ℕ → After
klem_from_name_seg_after seg out result = paths (sized result_words result && (sized path_size out && sized letters seg)) result out (segment_path seg)

abbrev pub klem_from_components_after : ℕ → List ℕ → List ℕ → List ℕ → After
klem_from_components_after count bytes out result =
    paths (sized result_words result && (sized path_size out && sized path_room bytes)) result out (path_in_answer component_limit (record { count = count; bytes = bytes }))

abbrev pub klem_from_str_after : List ℕ → List ℕ → List ℕ → After
klem_from_str_after text out result = paths (fits_path result out) result out (from_text component_limit text)

-- the text goes to the start of what is lent, and the value is its length
abbrev pub texts : Bool → List ℕ → List ℕ → Wrote → After
texts fit result text w = leaves fit result text (result_of (valued one w.said)) w.out

abbrev pub klem_as_string_after : List ℕ → List ℕ → List ℕ → After
klem_as_string_after path text result =
    texts (fits_path result path) result text
    (wrote text (and_then (path_in_answer component_limit (path_at path)) (text_within (length text))))

-- a test of a path
abbrev pub tests : (List Component → Bool) → List ℕ → List ℕ → After
tests f path result =
    answers (fits_path result path) result
    (valued (λ b. one (flag b)) (and_then (path_in_answer component_limit (path_at path)) (λ cs. gives (f cs))))

abbrev pub klem_is_normal_after : List ℕ → List ℕ → After
klem_is_normal_after path result = tests is_normal_path path result

abbrev pub klem_is_absolute_after : List ℕ → List ℕ → After
klem_is_absolute_after path result = tests absolute path result

abbrev pub klem_search_rules_apply_after : List ℕ → List ℕ → After
klem_search_rules_apply_after path result = tests one_segment path result

-- a path made of a path
abbrev pub makes : (List Component → Answer (List Component)) → List ℕ → List ℕ → List ℕ → After
makes f path out result =
    paths (fits_two result out path) result out (and_then (path_in_answer component_limit (path_at path)) f)

abbrev pub klem_normalize_after : List ℕ → List ℕ → List ℕ → After
klem_normalize_after path out result = makes (normal component_limit) path out result

abbrev pub klem_parent_after : List ℕ → List ℕ → List ℕ → After
klem_parent_after path out result = makes (parent_of component_limit) path out result

abbrev pub klem_resolve_after : List ℕ → List ℕ → List ℕ → List ℕ → After
klem_resolve_after path scope out result =
    paths (fits_three result out path scope) result out
    (and_then (path_in_answer component_limit (path_at path)) (λ cs. and_then (path_in_answer component_limit (path_at scope)) (λ ss. resolved component_limit cs ss)))
