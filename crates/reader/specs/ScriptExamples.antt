-- Worked examples, by computation: the vectors of request N4, names and text in UTF-8. How the reader ends on each scene of the page.
use Rattle.std.specs.Prelude.{ℕ, zero, suc, ◌≡◌, refl, List, [], ◌∷◌, ◌++◌, replicate}
use Rattle.laws.specs.Text.{bytes}
use Rattle.reader.specs.Events.{refusal, finished, last_of}
use Rattle.reader.specs.Computing.{computing}

abbrev repeated : ℕ → List ℕ → List ℕ
repeated zero word = []
repeated (suc n) word = word ++ repeated n word

-- names, values, texts in other scripts
names :
    (last_of (bytes "<" ++ (0xE9 ∷ 0xAA ∷ 0xA8 ∷ []) ++ bytes " " ++ (0xCF ∷ 0x80 ∷ []) ++ bytes "='" ++ (0xC3 ∷ 0xA9 ∷ []) ++ bytes "'>" ++ (0xE3 ∷ 0x81 ∷ 0xB2 ∷ []) ++ bytes "<" ++ (0xF0 ∷ 0x90 ∷ 0x90 ∷ 0x80 ∷ []) ++ bytes "/></" ++ (0xE9 ∷ 0xAA ∷ 0xA8 ∷ []) ++ bytes ">") ≡ finished 29)
    × (last_of (bytes "<" ++ (0xCF ∷ 0x80 ∷ []) ++ bytes ":" ++ (0xC3 ∷ 0xA9 ∷ []) ++ bytes " xmlns:" ++ (0xCF ∷ 0x80 ∷ []) ++ bytes "='" ++ (0xE9 ∷ 0xAA ∷ 0xA8 ∷ []) ++ bytes "'/>") ≡ finished 23)
    × (last_of (bytes "<" ++ (0xE9 ∷ 0xAA ∷ 0xA8 ∷ 0xC2 ∷ 0xB7 ∷ 0xCC ∷ 0x81 ∷ []) ++ bytes "-1.></" ++ (0xE9 ∷ 0xAA ∷ 0xA8 ∷ 0xC2 ∷ 0xB7 ∷ 0xCC ∷ 0x81 ∷ []) ++ bytes "-1.>") ≡ finished 25)
    × (last_of (bytes "<" ++ (0xEF ∷ 0xBB ∷ 0xBF ∷ []) ++ bytes "a/>") ≡ finished 7)
    × (last_of (bytes "<a" ++ (0xEF ∷ 0xB7 ∷ 0x90 ∷ []) ++ bytes "/>") ≡ refusal 2 4)
    × (last_of (bytes "<a" ++ (0xF3 ∷ 0xAF ∷ 0xBF ∷ 0xBF ∷ []) ++ bytes "/>") ≡ finished 8)
    × (last_of (bytes "<a" ++ (0xF3 ∷ 0xB0 ∷ 0x80 ∷ 0x80 ∷ []) ++ bytes "/>") ≡ refusal 2 3)
    × (last_of (bytes "<:" ++ (0xC3 ∷ 0xA9 ∷ []) ++ bytes "/>") ≡ refusal 2 1)
    × (last_of (bytes "<a:" ++ (0xC2 ∷ 0xB7 ∷ []) ++ bytes "/>") ≡ refusal 2 3)
    × (last_of (bytes "<r " ++ (0xC2 ∷ 0xB7 ∷ []) ++ bytes "=''/>") ≡ refusal 2 3)
unfolding computing
names = (refl, refl, refl, refl, refl, refl, refl, refl, refl, refl)

-- text
texts :
    (last_of (bytes "<r>" ++ (0xC2 ∷ 0x80 ∷ []) ++ (0x7F ∷ []) ++ (0xC2 ∷ 0x85 ∷ 0xEF ∷ 0xB7 ∷ 0x90 ∷ 0xEF ∷ 0xBB ∷ 0xBF ∷ 0xEF ∷ 0xBF ∷ 0xBD ∷ 0xF0 ∷ 0x9F ∷ 0xBF ∷ 0xBE ∷ 0xF4 ∷ 0x8F ∷ 0xBF ∷ 0xBF ∷ []) ++ bytes "</r>") ≡ finished 29)
    × (last_of (bytes "<r>" ++ (0x80 ∷ []) ++ bytes "</r>") ≡ refusal 2 3)
    × (last_of (bytes "<r>" ++ (0xC0 ∷ 0x80 ∷ []) ++ bytes "</r>") ≡ refusal 2 3)
    × (last_of (bytes "<r>" ++ (0xC1 ∷ 0xBF ∷ []) ++ bytes "</r>") ≡ refusal 2 3)
    × (last_of (bytes "<r>" ++ (0xE0 ∷ 0x9F ∷ 0xBF ∷ []) ++ bytes "</r>") ≡ refusal 2 4)
    × (last_of (bytes "<r>" ++ (0xE0 ∷ 0xA0 ∷ 0x80 ∷ []) ++ bytes "</r>") ≡ finished 10)
    × (last_of (bytes "<r>" ++ (0xED ∷ 0x9F ∷ 0xBF ∷ []) ++ bytes "</r>") ≡ finished 10)
    × (last_of (bytes "<r>" ++ (0xED ∷ 0xA0 ∷ 0x80 ∷ []) ++ bytes "</r>") ≡ refusal 2 4)
    × (last_of (bytes "<r>" ++ (0xEE ∷ 0x80 ∷ 0x80 ∷ []) ++ bytes "</r>") ≡ finished 10)
    × (last_of (bytes "<r>" ++ (0xEF ∷ 0xBF ∷ 0xBE ∷ []) ++ bytes "</r>") ≡ refusal 2 5)
    × (last_of (bytes "<r>" ++ (0xEF ∷ 0xBF ∷ 0xBF ∷ []) ++ bytes "</r>") ≡ refusal 2 5)
    × (last_of (bytes "<r>" ++ (0xF0 ∷ 0x8F ∷ 0xBF ∷ 0xBF ∷ []) ++ bytes "</r>") ≡ refusal 2 4)
    × (last_of (bytes "<r>" ++ (0xF0 ∷ 0x90 ∷ 0x80 ∷ 0x80 ∷ []) ++ bytes "</r>") ≡ finished 11)
    × (last_of (bytes "<r>" ++ (0xF4 ∷ 0x90 ∷ 0x80 ∷ 0x80 ∷ []) ++ bytes "</r>") ≡ refusal 2 4)
    × (last_of (bytes "<r>" ++ (0xF5 ∷ 0x80 ∷ 0x80 ∷ 0x80 ∷ []) ++ bytes "</r>") ≡ refusal 2 3)
    × (last_of (bytes "<r>" ++ (0xC3 ∷ []) ++ bytes "&lt;</r>") ≡ refusal 2 4)
    × (last_of (bytes "<r>]]" ++ (0xC3 ∷ []) ++ bytes "></r>") ≡ refusal 2 6)
    × (last_of (bytes "<r>" ++ (0xF0 ∷ 0x90 ∷ 0x80 ∷ [])) ≡ refusal 1 6)
unfolding computing
texts = (refl, refl, refl, refl, refl, refl, refl, refl, refl, refl, refl, refl, refl, refl, refl, refl, refl, refl)

-- values, comments, instructions
values :
    (last_of (bytes "<r a=\"" ++ (0xC3 ∷ []) ++ bytes "\"/>") ≡ refusal 2 7)
    × (last_of (bytes "<r xmlns=\"" ++ (0xFF ∷ []) ++ bytes "\"/>") ≡ refusal 2 10)
    × (last_of (bytes "<r a='" ++ (0xE3 ∷ 0x81 ∷ [])) ≡ refusal 1 8)
    × (last_of (bytes "<r><!--" ++ (0xC3 ∷ []) ++ bytes "--></r>") ≡ refusal 2 8)
    × (last_of (bytes "<r><!--a-" ++ (0xC3 ∷ []) ++ bytes "-></r>") ≡ refusal 2 10)
    × (last_of (bytes "<r><!--a--" ++ (0xC3 ∷ [])) ≡ refusal 2 10)
    × (last_of (bytes "<r><?" ++ (0xE9 ∷ 0xAA ∷ 0xA8 ∷ []) ++ bytes " " ++ (0xC3 ∷ 0xA9 ∷ []) ++ bytes "?></r>") ≡ finished 17)
    × (last_of (bytes "<r><?p " ++ (0xED ∷ 0xA0 ∷ 0x80 ∷ []) ++ bytes "?></r>") ≡ refusal 2 8)
    × (last_of (bytes "<r><?p" ++ (0xC3 ∷ 0x97 ∷ []) ++ bytes "?></r>") ≡ refusal 2 7)
    × (last_of (bytes "<r><?p " ++ (0xC3 ∷ []) ++ bytes "?></r>") ≡ refusal 2 8)
unfolding computing
values = (refl, refl, refl, refl, refl, refl, refl, refl, refl, refl)

-- 64 bytes
lengths :
    (last_of (bytes "<" ++ replicate 62 0x6E ++ (0xC3 ∷ 0xA9 ∷ []) ++ bytes "/>") ≡ finished 67)
    × (last_of (bytes "<" ++ replicate 63 0x6E ++ (0xC3 ∷ 0xA9 ∷ []) ++ bytes "/>") ≡ refusal 3 65)
    × (last_of (bytes "<" ++ replicate 63 0x6E ++ (0xC3 ∷ 0x97 ∷ []) ++ bytes "/>") ≡ refusal 2 65)
    × (last_of (bytes "<" ++ replicate 63 0x6E ++ (0xC3 ∷ [])) ≡ refusal 1 65)
    × (last_of (bytes "<" ++ replicate 64 0x6E ++ (0xC3 ∷ 0x97 ∷ [])) ≡ refusal 3 65)
    × (last_of (bytes "<" ++ replicate 64 0x6E ++ (0xC2 ∷ 0x80 ∷ []) ++ bytes "/>") ≡ refusal 3 65)
    × (last_of (bytes "<" ++ replicate 64 0x6E ++ (0xEE ∷ 0x80 ∷ 0x80 ∷ []) ++ bytes "/>") ≡ refusal 2 65)
    × (last_of (bytes "<" ++ replicate 64 0x6E ++ (0x81 ∷ []) ++ bytes "/>") ≡ refusal 2 65)
    × (last_of (bytes "<" ++ replicate 61 0x6E ++ (0xE3 ∷ 0x81 ∷ 0x82 ∷ []) ++ bytes "/>") ≡ finished 67)
    × (last_of (bytes "<" ++ replicate 62 0x6E ++ (0xE3 ∷ 0x81 ∷ 0x82 ∷ []) ++ bytes "/>") ≡ refusal 3 65)
    × (last_of (bytes "<" ++ replicate 62 0x6E ++ (0xEF ∷ 0xBF ∷ 0xBE ∷ []) ++ bytes "/>") ≡ refusal 2 65)
    × (last_of (bytes "<" ++ repeated 21 (0xE3 ∷ 0x81 ∷ 0x82 ∷ []) ++ bytes "n/>") ≡ finished 67)
    × (last_of (bytes "<" ++ replicate 60 0x6E ++ (0xF0 ∷ 0x90 ∷ 0x90 ∷ 0x80 ∷ []) ++ bytes ":" ++ replicate 60 0x6E ++ (0xF0 ∷ 0x90 ∷ 0x90 ∷ 0x80 ∷ []) ++ bytes " xmlns:" ++ replicate 60 0x6E ++ (0xF0 ∷ 0x90 ∷ 0x90 ∷ 0x80 ∷ []) ++ bytes "='u'/>") ≡ finished 207)
    × (last_of (bytes "<p:" ++ replicate 63 0x6E ++ (0xC3 ∷ 0xA9 ∷ []) ++ bytes "/>") ≡ refusal 3 67)
    × (last_of (bytes "<r></" ++ replicate 63 0x6E ++ (0xC3 ∷ 0xA9 ∷ [])) ≡ refusal 3 69)
    × (last_of (bytes "<r><?" ++ replicate 63 0x74 ++ (0xC3 ∷ 0xA9 ∷ []) ++ bytes "?></r>") ≡ refusal 3 69)
unfolding computing
lengths = (refl, refl, refl, refl, refl, refl, refl, refl, refl, refl, refl, refl, refl, refl, refl, refl)

-- 16 attributes and then a byte
attributes :
    (last_of (bytes "<r a='' b='' c='' d='' e='' f='' g='' h='' i='' j='' k='' l='' m='' n='' o='' " ++ (0xC3 ∷ 0xA9 ∷ []) ++ bytes "=''/>") ≡ finished 85)
    × (last_of (bytes "<r a='' b='' c='' d='' e='' f='' g='' h='' i='' j='' k='' l='' m='' n='' o='' p='' " ++ (0xC3 ∷ 0x97 ∷ [])) ≡ refusal 3 83)
    × (last_of (bytes "<r a='' b='' c='' d='' e='' f='' g='' h='' i='' j='' k='' l='' m='' n='' o='' p='' " ++ (0xC2 ∷ 0xB7 ∷ [])) ≡ refusal 2 83)
    × (last_of (bytes "<r a='' b='' c='' d='' e='' f='' g='' h='' i='' j='' k='' l='' m='' n='' o='' p=''" ++ (0xC3 ∷ 0xA9 ∷ [])) ≡ refusal 2 82)
unfolding computing
attributes = (refl, refl, refl, refl)

-- the scenes of the decisions N4-3 to N4-16, in their order
decisions :
    (last_of (bytes "<!--" ++ (0xFF ∷ []) ++ bytes "--><r/>") ≡ refusal 2 4)
    × (last_of (bytes "<a" ++ (0xC2 ∷ 0xB7 ∷ []) ++ bytes "/>") ≡ finished 6)
    × (last_of (bytes "<" ++ (0xC2 ∷ 0xB7 ∷ []) ++ bytes "/>") ≡ refusal 2 1)
    × (last_of (bytes "<a" ++ (0xC2 ∷ 0xB8 ∷ []) ++ bytes "/>") ≡ refusal 2 3)
    × (last_of (bytes "<a" ++ (0xC3 ∷ 0x97 ∷ []) ++ bytes "/>") ≡ refusal 2 3)
    × (last_of (bytes "<" ++ (0xC3 ∷ 0x97 ∷ []) ++ bytes "/>") ≡ refusal 2 2)
    × (last_of (bytes "<" ++ (0xCC ∷ 0x80 ∷ []) ++ bytes "/>") ≡ refusal 2 1)
    × (last_of (bytes "<" ++ (0xE3 ∷ 0x80 ∷ 0x80 ∷ []) ++ bytes "/>") ≡ refusal 2 3)
    × (last_of (bytes "<r>" ++ (0xE3 ∷ 0x81 ∷ []) ++ bytes "</r>") ≡ refusal 2 5)
    × (last_of (bytes "<r a='" ++ (0xC3 ∷ []) ++ bytes "'/>") ≡ refusal 2 7)
    × (last_of (bytes "<a" ++ (0xC3 ∷ []) ++ bytes "/>") ≡ refusal 2 3)
    × (last_of (bytes "<r>" ++ (0xE3 ∷ 0x81 ∷ [])) ≡ refusal 1 5)
    × (last_of (bytes "<r>" ++ (0xE0 ∷ 0x80 ∷ [])) ≡ refusal 2 4)
    × (last_of (bytes "<" ++ (0xE3 ∷ [])) ≡ refusal 1 2)
    × (last_of ((0xEF ∷ 0xBB ∷ 0xBF ∷ []) ++ bytes "<r/>") ≡ refusal 2 0)
    × (last_of (bytes "<r>&" ++ (0xE3 ∷ 0x81 ∷ 0x82 ∷ []) ++ bytes ";</r>") ≡ refusal 2 4)
    × (last_of (bytes "<r/>" ++ (0xE3 ∷ [])) ≡ refusal 2 4)
    × (last_of (bytes "<r><?xml" ++ (0xC3 ∷ [])) ≡ refusal 1 9)
    × (last_of (bytes "<r><?xml" ++ (0xC3 ∷ 0x97 ∷ []) ++ bytes "?></r>") ≡ refusal 2 9)
    × (last_of (bytes "<r><?xml" ++ (0xC3 ∷ []) ++ bytes "?></r>") ≡ refusal 2 9)
    × (last_of (bytes "<r><?xml" ++ (0xC3 ∷ 0xA9 ∷ []) ++ bytes "?></r>") ≡ finished 16)
    × (last_of (bytes "<r><?xml" ++ (0xC2 ∷ 0xA0 ∷ []) ++ bytes "?></r>") ≡ refusal 2 9)
    × (last_of (bytes "<r><?xml" ++ (0x97 ∷ [])) ≡ refusal 2 5)
    × (last_of (bytes "<?xml" ++ (0xC3 ∷ 0x97 ∷ [])) ≡ refusal 2 6)
    × (last_of (bytes "<?xml" ++ (0x97 ∷ [])) ≡ refusal 2 5)
    × (last_of (bytes "<" ++ (0xC3 ∷ 0xA9 ∷ []) ++ bytes "></e" ++ (0xCC ∷ 0x81 ∷ []) ++ bytes ">") ≡ refusal 4 4)
unfolding computing
decisions = (refl, refl, refl, refl, refl, refl, refl, refl, refl, refl, refl, refl, refl, refl, refl, refl, refl, refl, refl, refl, refl, refl, refl, refl, refl, refl)
