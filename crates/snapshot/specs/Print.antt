-- Tags as bytes. Each is printed in front of what follows it.
use Rattle.std.specs.Prelude.{Bool, true, false, List, [], ◌∷◌, ◌++◌, ℕ}
use Rattle.names.specs.Bytes.{ch}
use Rattle.names.specs.Text.{escape}
use Rattle.reader.specs.Tag.{Attr, Tag, opens, closes}

abbrev pub line_feed : ℕ
line_feed = 10

-- "`& < > "` are escaped in values."
unfoldable pub put_attr : Attr → List ℕ → List ℕ
put_attr a k = ch " " ∷ (a.name ++ (ch "=" ∷ ch "\"" ∷ (escape a.value ++ (ch "\"" ∷ k))))

unfoldable pub put_attrs : List Attr → List ℕ → List ℕ
put_attrs [] k = k
put_attrs (a ∷ as') k = put_attr a (put_attrs as' k)

-- "Each tag ends in a line feed"; "self-closing, with no space before `/>`".
unfoldable pub put_end : Bool → List ℕ → List ℕ
put_end true k = ch "/" ∷ ch ">" ∷ line_feed ∷ k
put_end false k = ch ">" ∷ line_feed ∷ k

unfoldable pub put_tag : Tag → List ℕ → List ℕ
put_tag (opens n as' self) k = ch "<" ∷ (n ++ put_attrs as' (put_end self k))
put_tag (closes n) k = ch "<" ∷ ch "/" ∷ (n ++ put_end false k)

unfoldable pub put_tags : List Tag → List ℕ → List ℕ
put_tags [] k = k
put_tags (t ∷ ts) k = put_tag t (put_tags ts k)
