-- The checked examples of document 01 and of the orders in one table: each entry is a test of the definitions, and all of them hold (proofs/Examples.antt).
use Rattle.std.specs.Prelude.{Bool, true, false, not, List, [], ◌∷◌, ◌++◌, ℕ, eqb, length}
use Rattle.std.proofs.Math.Option.{Option, none, some}
use Rattle.names.specs.Bytes.{bytes}
use Rattle.names.specs.Key.{Key, key_order}
use Rattle.names.specs.Order.{same}
use Rattle.std.specs.declared.cmp.Ordering.{Ordering}
use Rattle.std.specs.declared.cmp.Ordering.TheVariants.{Less, Equal, Greater}
use Rattle.store.specs.Answer.{Answer, refused, accepted}
use Rattle.store.specs.Change.{make, kind_number, Change, change, change_bytes, live, value_of}
use Rattle.store.specs.Machine.{changes_of, empty}
use Rattle.store.specs.Calls.{Accepted, outcome}
use Rattle.reader.specs.Import.{import_file}
use Rattle.snapshot.specs.Snapshot.{snapshot}

-- The program's worked input and output.
unfoldable pub worked_input : List ℕ
worked_input = bytes "<ODM xmlns=\"http://www.cdisc.org/ns/odm/v1.3\" FileType=\"Transactional\" FileOID=\"F1\" CreationDateTime=\"2014-03-01T09:00:00\" ODMVersion=\"1.3.2\"><ClinicalData StudyOID=\"ST\" MetaDataVersionOID=\"V1\"><SubjectData SubjectKey=\"7\" TransactionType=\"Insert\"/></ClinicalData></ODM>"

unfoldable pub worked_output : List ℕ
worked_output = bytes "<?xml version=\"1.0\" encoding=\"UTF-8\"?>\n<ODM xmlns=\"http://www.cdisc.org/ns/odm/v1.3\" FileType=\"Snapshot\" FileOID=\"S1\" CreationDateTime=\"2014-03-02T09:00:00\" ODMVersion=\"1.3.2\">\n<ClinicalData StudyOID=\"ST\" MetaDataVersionOID=\"V1\">\n<SubjectData SubjectKey=\"7\">\n</SubjectData>\n</ClinicalData>\n</ODM>\n"

-- A Transactional file of study ST, version V1, of this date, with these elements in its ClinicalData.
unfoldable pub file : List ℕ → List ℕ → List ℕ
file date elements =
    bytes "<ODM xmlns=\"http://www.cdisc.org/ns/odm/v1.3\" FileType=\"Transactional\" FileOID=\"F1\" CreationDateTime=\"" ++ date
    ++ bytes "\" ODMVersion=\"1.3.2\"><ClinicalData StudyOID=\"ST\" MetaDataVersionOID=\"V1\">" ++ elements ++ bytes "</ClinicalData></ODM>"

-- A subject; subject 7, and in it the event SCR, the form VS, the group BP with other elements inside.
unfoldable pub subject_of : List ℕ → List ℕ → List ℕ
subject_of key word = bytes "<SubjectData SubjectKey=\"" ++ key ++ bytes "\" TransactionType=\"" ++ word ++ bytes "\"/>"

unfoldable pub subject : List ℕ → List ℕ
subject word = subject_of (bytes "7") word

unfoldable pub in_group : List ℕ → List ℕ → List ℕ
in_group word items =
    bytes "<SubjectData SubjectKey=\"7\" TransactionType=\"" ++ word ++ bytes "\"><StudyEventData StudyEventOID=\"SCR\"><FormData FormOID=\"VS\"><ItemGroupData ItemGroupOID=\"BP\">"
    ++ items ++ bytes "</ItemGroupData></FormData></StudyEventData></SubjectData>"

unfoldable pub remove_form : List ℕ
remove_form = bytes "<SubjectData SubjectKey=\"7\" TransactionType=\"Context\"><StudyEventData StudyEventOID=\"SCR\"><FormData FormOID=\"VS\" TransactionType=\"Remove\"/></StudyEventData></SubjectData>"

-- The form made again; the form and its group.
unfoldable pub form_again : List ℕ
form_again = bytes "<SubjectData SubjectKey=\"7\" TransactionType=\"Context\"><StudyEventData StudyEventOID=\"SCR\"><FormData FormOID=\"VS\" TransactionType=\"Insert\"/></StudyEventData></SubjectData>"

unfoldable pub group_again : List ℕ
group_again = bytes "<SubjectData SubjectKey=\"7\" TransactionType=\"Context\"><StudyEventData StudyEventOID=\"SCR\"><FormData FormOID=\"VS\" TransactionType=\"Insert\"><ItemGroupData ItemGroupOID=\"BP\"/></FormData></StudyEventData></SubjectData>"

-- The keys 7, 7/SCR/VS and 7/SCR/VS/BP/SYS, repeat keys absent.
unfoldable pub seven : Key
seven = bytes "7" ∷ []

unfoldable pub vitals : Key
vitals = bytes "7" ∷ bytes "SCR" ∷ [] ∷ bytes "VS" ∷ [] ∷ []

unfoldable pub systolic : Key
systolic = bytes "7" ∷ bytes "SCR" ∷ [] ∷ bytes "VS" ∷ [] ∷ bytes "BP" ∷ [] ∷ bytes "SYS" ∷ []

unfoldable pub item : List ℕ → List ℕ
item rest = bytes "<ItemData ItemOID=\"SYS\"" ++ rest ++ bytes "/>"

-- A typed item, and one of each type, with CDATA, an entity and an empty body among them.
unfoldable pub typed : List ℕ → List ℕ → List ℕ → List ℕ
typed type oid body = bytes "<ItemData" ++ type ++ bytes " ItemOID=\"" ++ oid ++ bytes "\">" ++ body ++ bytes "</ItemData" ++ type ++ bytes ">"

unfoldable pub typed_items : List ℕ
typed_items =
    typed (bytes "String") (bytes "A") (bytes "<![CDATA[1 < 2 &amp;]]>") ++ typed (bytes "String") (bytes "B") (bytes "3 &gt; 2") ++ typed (bytes "Integer") (bytes "C") (bytes "-12")
    ++ typed (bytes "Float") (bytes "D") (bytes "1.50") ++ typed (bytes "Date") (bytes "E") (bytes "2012-02-29") ++ typed (bytes "Datetime") (bytes "F") (bytes "2014-03-01T09:00:00")
    ++ typed (bytes "Integer") (bytes "G") []

unfoldable pub typed_output : List ℕ
typed_output = bytes "<?xml version=\"1.0\" encoding=\"UTF-8\"?>\n<ODM xmlns=\"http://www.cdisc.org/ns/odm/v1.3\" FileType=\"Snapshot\" FileOID=\"S1\" CreationDateTime=\"2014-03-02T09:00:00\" ODMVersion=\"1.3.2\">\n<ClinicalData StudyOID=\"ST\" MetaDataVersionOID=\"V1\">\n<SubjectData SubjectKey=\"7\">\n<StudyEventData StudyEventOID=\"SCR\">\n<FormData FormOID=\"VS\">\n<ItemGroupData ItemGroupOID=\"BP\">\n<ItemData ItemOID=\"A\" Value=\"1 &lt; 2 &amp;amp;\"/>\n<ItemData ItemOID=\"B\" Value=\"3 &gt; 2\"/>\n<ItemData ItemOID=\"C\" Value=\"-12\"/>\n<ItemData ItemOID=\"D\" Value=\"1.50\"/>\n<ItemData ItemOID=\"E\" Value=\"2012-02-29\"/>\n<ItemData ItemOID=\"F\" Value=\"2014-03-01T09:00:00\"/>\n<ItemData ItemOID=\"G\" IsNull=\"Yes\"/>\n</ItemGroupData>\n</FormData>\n</StudyEventData>\n</SubjectData>\n</ClinicalData>\n</ODM>\n"

-- A file on the empty store of study ST, version V1.
unfoldable pub imported : List ℕ → Answer Accepted
imported s = import_file (empty (bytes "ST") (bytes "V1")) s

unfoldable pub sent : List ℕ → Answer Accepted
sent elements = imported (file (bytes "2014-03-01T09:00:00") elements)

-- The call's two numbers. The buffers play no part in them.
unfoldable pub two_numbers : Answer Accepted → List ℕ
two_numbers x = let o = outcome record { numbers = []; bytes = [] } x in o.refusal ∷ o.count ∷ []

unfoldable pub numbers_are : Answer Accepted → ℕ → ℕ → Bool
numbers_are x refusal count = same (two_numbers x) (refusal ∷ count ∷ [])

unfoldable pub changes : Answer Accepted → List Change
changes (refused n) = []
changes (accepted t) = changes_of t.machine.files

unfoldable pub is_less : Ordering → Bool
is_less Less = true
is_less Equal = false
is_less Greater = false

-- The kinds of the changes, by their numbers.
unfoldable pub kinds : List Change → List ℕ
kinds [] = []
kinds (c ∷ cs) = kind_number c.kind ∷ kinds cs

unfoldable pub is_text : Option (List ℕ) → List ℕ → Bool
is_text none t = false
is_text (some s) t = same s t

unfoldable pub text_of : Answer (List ℕ) → List ℕ
text_of (refused n) = []
text_of (accepted s) = s

unfoldable pub snapshot_of : Answer Accepted → List ℕ
snapshot_of (refused n) = []
snapshot_of (accepted t) = text_of (snapshot t.machine (bytes "S1") (bytes "2014-03-02T09:00:00") 65536)

unfoldable pub examples : List Bool
examples =
    -- the worked input and output: "accepted 1", and the snapshot
    numbers_are (imported worked_input) 0 1
    ∷ same (snapshot_of (imported worked_input)) worked_output
    -- (a) key 7/SCR/VS/BP/SYS with value 120, repeat keys absent, takes 22 bytes
    ∷ eqb (length (change_bytes (change make systolic (bytes "120")))) 22
    -- (b) Insert twice: 11
    ∷ numbers_are (sent (subject (bytes "Insert") ++ subject (bytes "Insert"))) 11 0
    -- (c) Remove, then Insert: live
    ∷ live (changes (sent (subject (bytes "Insert") ++ subject (bytes "Remove") ++ subject (bytes "Insert")))) seven
    -- (d) Remove of a form, then Update of its item: 12; so, too, where the form and its group are made again, which is taken
    ∷ numbers_are (sent (in_group (bytes "Insert") (item (bytes " Value=\"120\"")) ++ remove_form ++ in_group (bytes "Update") (item (bytes " Value=\"121\"")))) 12 0
    ∷ numbers_are (sent (in_group (bytes "Insert") (item (bytes " Value=\"120\"")) ++ remove_form ++ group_again)) 0 8
    ∷ numbers_are (sent (in_group (bytes "Insert") (item (bytes " Value=\"120\"")) ++ remove_form ++ group_again ++ in_group (bytes "Update") (item (bytes " Value=\"121\"")))) 12 0
    -- (e) Upsert of a live item with Value: write
    ∷ same (kinds (changes (sent (in_group (bytes "Insert") (item (bytes " Value=\"120\"")) ++ in_group (bytes "Upsert") (item (bytes " Value=\"121\"")))))) (1 ∷ 1 ∷ 1 ∷ 1 ∷ 1 ∷ 2 ∷ [])
    -- (f) Update of an item with neither Value nor IsNull: no change
    ∷ same (kinds (changes (sent (in_group (bytes "Insert") (item (bytes " Value=\"120\"")) ++ in_group (bytes "Update") (item []))))) (1 ∷ 1 ∷ 1 ∷ 1 ∷ 1 ∷ [])
    -- (g) Value="": null
    ∷ is_text (value_of (changes (sent (in_group (bytes "Insert") (item (bytes " Value=\"\""))))) systolic) []
    -- (h) Context of an absent subject: 12
    ∷ numbers_are (sent (subject (bytes "Context"))) 12 0
    -- (i) 16-byte name taken, 17 refused
    ∷ numbers_are (sent (subject_of (bytes "ABCDEFGHIJKLMNOP") (bytes "Insert"))) 0 1
    ∷ numbers_are (sent (subject_of (bytes "ABCDEFGHIJKLMNOPQ") (bytes "Insert"))) 7 0
    -- (j) 2012-02-29 taken, 2014-02-29 not
    ∷ numbers_are (imported (file (bytes "2012-02-29T09:00:00") (subject (bytes "Insert")))) 0 1
    ∷ numbers_are (imported (file (bytes "2014-02-29T09:00:00") (subject (bytes "Insert")))) 7 0
    -- (k) absent repeat key before "1"
    ∷ is_less (key_order (bytes "7" ∷ bytes "SCR" ∷ [] ∷ []) (bytes "7" ∷ bytes "SCR" ∷ bytes "1" ∷ []))
    -- a removed form made again does not show its old items
    ∷ live (changes (sent (in_group (bytes "Insert") (item []) ++ remove_form ++ form_again))) vitals
    ∷ not (live (changes (sent (in_group (bytes "Insert") (item []) ++ remove_form ++ form_again))) systolic)
    -- Remove ends the listed children before the parent: subject, event, form, group and item made, then ended from the item up
    ∷ same (kinds (changes (sent (in_group (bytes "Insert") (item []) ++ in_group (bytes "Remove") (item []))))) (1 ∷ 1 ∷ 1 ∷ 1 ∷ 1 ∷ 3 ∷ 3 ∷ 3 ∷ 3 ∷ 3 ∷ [])
    -- "10" before "9"
    ∷ is_less (key_order (bytes "10" ∷ []) (bytes "9" ∷ []))
    -- order 1: a typed file, whose snapshot is untyped
    ∷ same (snapshot_of (sent (in_group (bytes "Insert") typed_items))) typed_output
    -- an empty body is null, "so Update always writes"
    ∷ same (kinds (changes (sent (in_group (bytes "Insert") (typed (bytes "Integer") (bytes "SYS") (bytes "120")) ++ in_group (bytes "Update") (typed (bytes "Integer") (bytes "SYS") []))))) (1 ∷ 1 ∷ 1 ∷ 1 ∷ 1 ∷ 2 ∷ [])
    -- typed and untyped items in one file: 16; a body off its pattern: 7
    ∷ numbers_are (sent (in_group (bytes "Insert") (typed (bytes "Integer") (bytes "DIA") (bytes "80") ++ item (bytes " Value=\"120\"")))) 16 0
    ∷ numbers_are (sent (in_group (bytes "Insert") (typed (bytes "Integer") (bytes "SYS") (bytes "1.5")))) 7 0
    ∷ []
