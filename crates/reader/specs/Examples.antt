-- Worked examples, by computation: how the reader ends, and what it tells of namespaces. Each would fail for the slip that it names.
use Rattle.std.specs.Prelude.{ℕ, ◌≡◌, refl, List, [], ◌∷◌, ◌++◌, map, true, false, replicate}
use Rattle.laws.specs.Text.{bytes}
use Rattle.reader.specs.Spans.{span}
use Rattle.reader.specs.Namespaces.{Namespace, nothing, xml, declared, ReadAttribute, same_namespace, binding}
use Rattle.reader.specs.Events.{Event, start, text, end, Next, event, refusal, finished, fresh_reader, next, events, last_of}
use Rattle.reader.specs.Computing.{computing}

-- a scene that ends with each of these bytes
abbrev last_byte : List ℕ → List ℕ → List Next
last_byte s = map (λ (b : ℕ). last_of (s ++ (b ∷ [])))

-- the first and last of each range: what begins a name, what goes on with it, space, and what a text holds
begins : last_byte (bytes "<") (0x41 ∷ 0x5A ∷ 0x5F ∷ 0x61 ∷ 0x7A ∷ 0xC3 ∷ 0xF3 ∷ []) ≡ replicate 7 (refusal 1 2)
unfolding computing
begins = refl

begins_not : last_byte (bytes "<") (0x2D ∷ 0x2E ∷ 0x30 ∷ 0x39 ∷ 0x40 ∷ 0x5B ∷ 0x60 ∷ 0x7B ∷ 0x80 ∷ 0xC2 ∷ 0xCC ∷ 0xF4 ∷ []) ≡ replicate 12 (refusal 2 1)
unfolding computing
begins_not = refl

goes_on : last_byte (bytes "<r") (0x2D ∷ 0x2E ∷ 0x30 ∷ 0x39 ∷ 0x41 ∷ 0x5A ∷ 0x5F ∷ 0x61 ∷ 0x7A ∷ 0xC2 ∷ 0xCC ∷ 0xF3 ∷ []) ≡ replicate 12 (refusal 1 3)
unfolding computing
goes_on = refl

goes_not_on : last_byte (bytes "<r") (0x2C ∷ 0x3B ∷ 0x40 ∷ 0x5B ∷ 0x60 ∷ 0x7B ∷ 0x80 ∷ 0xC1 ∷ 0xEE ∷ 0xF4 ∷ []) ≡ replicate 10 (refusal 2 2)
unfolding computing
goes_not_on = refl

space : last_byte (bytes "<r/>") (0x09 ∷ 0x0A ∷ 0x0D ∷ 0x20 ∷ []) ≡ replicate 4 (finished 5)
unfolding computing
space = refl

held : last_byte (bytes "<r>") (0x09 ∷ 0x0A ∷ 0x0D ∷ 0x20 ∷ 0x7F ∷ 0xC2 ∷ 0xED ∷ 0xF4 ∷ []) ≡ replicate 8 (refusal 1 4)
unfolding computing
held = refl

held_not : last_byte (bytes "<r>") (0x00 ∷ 0x08 ∷ 0x0B ∷ 0x0C ∷ 0x0E ∷ 0x1F ∷ 0x80 ∷ 0xC1 ∷ 0xF5 ∷ 0xFF ∷ []) ≡ replicate 10 (refusal 2 3)
unfolding computing
held_not = refl

-- B1: space is any run of space bytes, in an end tag too
spaces : last_of (bytes "<r  a = ''\n\t/>") ≡ finished 14
unfolding computing
spaces = refl

space_in_an_end : last_of (bytes "<r></r\n >") ≡ finished 9
unfolding computing
space_in_an_end = refl

-- B2: the first byte with which none of the five goes on; the scene's end inside one; the five, and a < behind one
no_reference_lem : last_of (bytes "<r>&x</r>") ≡ refusal 2 4
unfolding computing
no_reference_lem = refl

reference_and_more : last_of (bytes "<r>&ampx") ≡ refusal 2 7
unfolding computing
reference_and_more = refl

reference_then_tag : last_of (bytes "<r>&<") ≡ refusal 2 4
unfolding computing
reference_then_tag = refl

reference_cut : last_of (bytes "<r>&lt") ≡ refusal 1 6
unfolding computing
reference_cut = refl

five_references : last_of (bytes "<r a='&lt;&gt;&amp;&quot;&apos;'>&lt;&gt;&amp;&quot;&apos;</r>") ≡ finished 62
unfolding computing
five_references = refl

-- B3: a 65th byte of a part that could go on with it; 64 are fine
long_part : last_of (bytes "<" ++ replicate 65 0x61) ≡ refusal 3 65
unfolding computing
long_part = refl

longest_part : last_of (bytes "<" ++ replicate 64 0x61 ++ bytes "/>") ≡ finished 67
unfolding computing
longest_part = refl

-- B4: sixteen attributes are fine; a byte that can begin a 17th, though the scene ends there; another byte
sixteen_attributes : last_of (bytes "<r a='' b='' c='' d='' e='' f='' g='' h='' i='' j='' k='' l='' m='' n='' o='' p=''/>") ≡ finished 84
unfolding computing
sixteen_attributes = refl

seventeenth_attribute : last_byte (bytes "<r a='' b='' c='' d='' e='' f='' g='' h='' i='' j='' k='' l='' m='' n='' o='' p='' ") (0x71 ∷ 0x21 ∷ []) ≡ refusal 3 83 ∷ refusal 2 83 ∷ []
unfolding computing
seventeenth_attribute = refl

-- B5: an end tag with nothing open
end_of_nothing : last_of (bytes "</r>") ≡ refusal 2 1
unfolding computing
end_of_nothing = refl

-- B6 and N1-9: after the root every byte but space, and behind a < every byte that opens no misc
second_root : last_of (bytes "<r/><s/>") ≡ refusal 2 5
unfolding computing
second_root = refl

space_after_the_root : last_of (bytes "<r/>  ") ≡ finished 6
unfolding computing
space_after_the_root = refl

-- B7 and N1-8: what no misc begins with; text before the root
document_type : last_of (bytes "<!DOCTYPE r>") ≡ refusal 2 2
unfolding computing
document_type = refl

text_before_the_root : last_of (bytes "a<r/>") ≡ refusal 2 0
unfolding computing
text_before_the_root = refl

-- B8 and N1-22: >, the other quote and 7F may stand in text and values, ]]> in values; 0B may not
free_bytes : last_of (bytes "<r a='\">]]>'>]>" ++ (0x7F ∷ []) ++ bytes "</r>") ≡ finished 20
unfolding computing
free_bytes = refl

vertical_tab : last_of (bytes "<r>" ++ (0x0B ∷ [])) ≡ refusal 2 3
unfolding computing
vertical_tab = refl

-- B9: 4, 5 and 6 are said of a whole tag
end_cut : last_of (bytes "<r></s") ≡ refusal 1 6
unfolding computing
end_cut = refl

start_cut : last_of (bytes "<r a='' a='' ") ≡ refusal 1 13
unfolding computing
start_cut = refl

bad_byte_first : last_of (bytes "<xmlns:r !") ≡ refusal 2 9
unfolding computing
bad_byte_first = refl

-- B10: a text is complete once the next < is read
text_cut : last_of (bytes "<r>abc") ≡ refusal 1 6
unfolding computing
text_cut = refl

-- B12: whole names are compared
names_unlike : last_of (bytes "<p:r xmlns:p='u' xmlns:q='u'></q:r>") ≡ refusal 4 29
unfolding computing
names_unlike = refl

-- B13: space, colons, = and / where none may stand
space_inside : map last_of (bytes "< r" ∷ bytes "<r></ r" ∷ bytes "<r/ >" ∷ []) ≡ refusal 2 1 ∷ refusal 2 5 ∷ refusal 2 3 ∷ []
unfolding computing
space_inside = refl

two_colons : last_of (bytes "<a:b:c/>") ≡ refusal 2 4
unfolding computing
two_colons = refl

colon_first : last_of (bytes "<r :a=''/>") ≡ refusal 2 3
unfolding computing
colon_first = refl

no_value : last_of (bytes "<r a/>") ≡ refusal 2 4
unfolding computing
no_value = refl

no_space : last_of (bytes "<r a=''b=''/>") ≡ refusal 2 7
unfolding computing
no_space = refl

two_equals : last_of (bytes "<r a==''/>") ≡ refusal 2 5
unfolding computing
two_equals = refl

no_part : last_of (bytes "<p:/>") ≡ refusal 2 3
unfolding computing
no_part = refl

no_name : last_of (bytes "<r></>") ≡ refusal 2 5
unfolding computing
no_name = refl

two_slashes : last_of (bytes "<r//>") ≡ refusal 2 3
unfolding computing
two_slashes = refl

-- samples F, G, H
slash_cut : last_of (bytes "<r/") ≡ refusal 1 3
unfolding computing
slash_cut = refl

slash_and_more : last_of (bytes "<r/x") ≡ refusal 2 3
unfolding computing
slash_and_more = refl

another_end : last_of (bytes "<r></s>") ≡ refusal 4 3
unfolding computing
another_end = refl

unbound : last_of (bytes "<p:r/>") ≡ refusal 5 0
unfolding computing
unbound = refl

-- C2: xml is never declared, even with its own URI; neither its URI nor xmlns's is, for a prefix or the default
reserved : map last_of (bytes "<r xmlns:xml='u'/>" ∷ bytes "<r xmlns:xml='http://www.w3.org/XML/1998/namespace'/>" ∷ bytes "<r xmlns:p='http://www.w3.org/XML/1998/namespace'/>" ∷ bytes "<r xmlns='http://www.w3.org/XML/1998/namespace'/>" ∷ bytes "<r xmlns:p='http://www.w3.org/2000/xmlns/'/>" ∷ bytes "<r xmlns='http://www.w3.org/2000/xmlns/'/>" ∷ []) ≡ replicate 6 (refusal 5 0)
unfolding computing
reserved = refl

-- C3: an & in a declaration, of the default or a prefix
reference_declared : map last_of (bytes "<r xmlns='a&amp;b'/>" ∷ bytes "<r xmlns:p='a&amp;b'/>" ∷ []) ≡ replicate 2 (refusal 5 0)
unfolding computing
reference_declared = refl

-- C4: declarations are attributes for 6; a prefix declared empty is 5 first
declared_twice : last_of (bytes "<r xmlns='u' xmlns='v'/>") ≡ refusal 6 0
unfolding computing
declared_twice = refl

declared_twice_and_empty : last_of (bytes "<r xmlns='u' xmlns='v' xmlns:p=''/>") ≡ refusal 5 0
unfolding computing
declared_twice_and_empty = refl

-- C5: a tag's declarations count for the whole tag, also before they stand
declared_behind : last_of (bytes "<p:r xmlns:p='u' q:a='' xmlns:q='v'/>") ≡ finished 37
unfolding computing
declared_behind = refl

-- an unbound prefix, of a later attribute too, goes before 6
attribute_unbound : last_of (bytes "<r a='' q:b='' q:b=''/>") ≡ refusal 5 0
unfolding computing
attribute_unbound = refl

-- C6: an unprefixed attribute is in no namespace; two prefixes of one URI are one namespace
plain_and_prefixed : last_of (bytes "<p:r xmlns:p='u' a='' p:a=''/>") ≡ finished 30
unfolding computing
plain_and_prefixed = refl

two_prefixes_of_one_uri : last_of (bytes "<r xmlns:p='u' xmlns:q='u' p:a='' q:a=''/>") ≡ refusal 6 0
unfolding computing
two_prefixes_of_one_uri = refl

plain_and_default : last_of (bytes "<r xmlns='u' xmlns:p='u' a='' p:a=''/>") ≡ finished 38
unfolding computing
plain_and_default = refl

-- C7: xmlns declared, or as an element's prefix, is 5
xmlns_declared : last_of (bytes "<r xmlns:xmlns='u'/>") ≡ refusal 5 0
unfolding computing
xmlns_declared = refl

xmlns_element : last_of (bytes "<xmlns:r/>") ≡ refusal 5 0
unfolding computing
xmlns_element = refl

-- what a start tells of namespaces: the element's, and those of its attributes
abbrev spaces_of : Event → List Namespace
spaces_of (start e) = e.namespace ∷ map (λ (a : ReadAttribute). a.namespace) e.attributes
spaces_of (text w) = []
spaces_of (end w at) = []

abbrev at : ℕ → ℕ → Namespace
at a n = declared (span a n)

-- The innermost declaration of a prefix, and the outer one again behind it
redeclared : map spaces_of (events (bytes "<p:r xmlns:p='u'><p:x xmlns:p='v'><p:y/></p:x><p:z/></p:r>")) ≡ (at 14 1 ∷ []) ∷ (at 31 1 ∷ []) ∷ (at 31 1 ∷ []) ∷ [] ∷ [] ∷ (at 14 1 ∷ []) ∷ [] ∷ [] ∷ []
unfolding computing
redeclared = refl

-- for attributes too; a declaration ends with its tag's />
redeclared_for_attributes : map spaces_of (events (bytes "<r xmlns:p='u'><x xmlns:p='v' p:a=''/><y><z p:b=''/></y></r>")) ≡ (nothing ∷ []) ∷ (nothing ∷ at 27 1 ∷ []) ∷ [] ∷ (nothing ∷ []) ∷ (nothing ∷ at 12 1 ∷ []) ∷ [] ∷ [] ∷ [] ∷ []
unfolding computing
redeclared_for_attributes = refl

-- C1: xmlns="" undoes the default; its URI is empty, as that of no namespace
default_undone : map spaces_of (events (bytes "<r xmlns='u'><x xmlns=''><y/></x></r>")) ≡ (at 10 1 ∷ []) ∷ (at 23 0 ∷ []) ∷ (at 23 0 ∷ []) ∷ [] ∷ [] ∷ [] ∷ []
unfolding computing
default_undone = refl

-- The default does not apply to attributes
attributes_of_two_uris : map spaces_of (events (bytes "<r xmlns='u' xmlns:p='v' a='' p:b='' xml:c=''/>")) ≡ (at 10 1 ∷ nothing ∷ at 22 1 ∷ xml ∷ []) ∷ [] ∷ []
unfolding computing
attributes_of_two_uris = refl

-- C7: xmlns as an element's whole name, and as a part, is ordinary
xmlns_as_a_part : map spaces_of (events (bytes "<xmlns xmlns:p='u' p:xmlns='v'/>")) ≡ (nothing ∷ at 16 1 ∷ []) ∷ [] ∷ []
unfolding computing
xmlns_as_a_part = refl

-- two nested unlisted URIs are two namespaces; two prefixes of one URI are one
unlike_uris : same_namespace (bytes "<r xmlns='P'><x xmlns='Q'/></r>") (at 10 1) (at 23 1) ≡ false
unfolding computing
unlike_uris = refl

like_uris : same_namespace (bytes "<p:r xmlns:p='P' xmlns:q='P'/>") (at 14 1) (at 26 1) ≡ true
unfolding computing
like_uris = refl

empty_is_nothing : same_namespace (bytes "<x xmlns=''/>") (at 10 0) nothing ≡ true
unfolding computing
empty_is_nothing = refl

-- sample A, whole: the default's URI, the text, the end of />
sample_a : events (bytes "<r xmlns=\"u\">a<x/></r>")
    ≡ start (record { at = 0; name = span 1 1; part = span 1 1; namespace = at 10 1; attributes = []; empty = false })
    ∷ text (span 13 1)
    ∷ start (record { at = 14; name = span 15 1; part = span 15 1; namespace = at 10 1; attributes = []; empty = true })
    ∷ end (span 15 1) 14
    ∷ end (span 20 1) 18
    ∷ []
unfolding computing
sample_a = refl

-- B11: a text of space is an event; the end of /> takes the part of the start's name; quotes and values
space_text : events (bytes "<p:r xmlns:p='u' a='b\"'> <p:x/></p:r>")
    ≡ start
    (record {
      at = 0;
      name = span 1 3;
      part = span 3 1;
      namespace = at 14 1;
      attributes = record { part = span 17 1; value = span 20 2; namespace = nothing } ∷ [];
      empty = false;
    })
    ∷ text (span 24 1)
    ∷ start (record { at = 25; name = span 26 3; part = span 28 1; namespace = at 14 1; attributes = []; empty = true })
    ∷ end (span 28 1) 25
    ∷ end (span 35 1) 31
    ∷ []
unfolding computing
space_text = refl

-- E9: the declarations of a tag stand in tag order, the default's with prefix zero; the place is behind the tag
declarations_kept : next (bytes "<p:r xmlns:p='u' xmlns=''/>") fresh_reader
    ≡ event
    (start (record { at = 0; name = span 1 3; part = span 3 1; namespace = at 14 1; attributes = []; empty = true }))
    (record {
      place = 27;
      closed = false;
      awaited = true;
      opened = record { name = span 1 3; declarations = binding (span 11 1) (span 14 1) ∷ binding (span 0 0) (span 24 0) ∷ [] } ∷ [];
    })
unfolding computing
declarations_kept = refl
