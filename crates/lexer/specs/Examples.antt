-- Worked examples, by computation: vectors of request N1 on comments, instructions, the declaration, where an event begins behind them, and ]]> in text; values and end tags.
use Rattle.std.specs.Prelude.{◌≡◌, refl, [], ◌∷◌, ◌++◌, true, false, replicate, Ok, Err}
use Rattle.laws.specs.Text.{bytes}
use Rattle.lexer.specs.Values.{value_end, text_end}
use Rattle.lexer.specs.Tags.{end_tag_at}
use Rattle.lexer.specs.Misc.{misc_end}
use Rattle.lexer.specs.Begins.{begin_at}
use Rattle.lexer.specs.Computing.{computing}
use Rattle.lexer.specs.declared.Stop.TheVariants.{Bad, Long, Cut}
use Rattle.lexer.specs.declared.Begin.TheVariants as begin

-- [15], N1-8, N1-12, N1-13
comments :
    (misc_end (bytes "<!-->") 0 ≡ Err Cut)
    × (misc_end (bytes "<!--->") 0 ≡ Err Cut)
    × (misc_end (bytes "<!---->") 0 ≡ Ok 7)
    × (misc_end (bytes "<!----->") 0 ≡ Err (Bad 6))
    × (misc_end (bytes "<!--a--->") 0 ≡ Err (Bad 7))
    × (misc_end (bytes "<!--a--b") 0 ≡ Err (Bad 7))
    × (misc_end (bytes "<!--a--") 0 ≡ Err Cut)
    × (misc_end (bytes "<!x") 0 ≡ Err (Bad 2))
    × (misc_end (bytes "<!-x") 0 ≡ Err (Bad 3))
    × (misc_end (bytes "<![CDATA[") 0 ≡ Err (Bad 2))
    × (misc_end (bytes "<!") 0 ≡ Err Cut)
unfolding computing
comments = (refl, refl, refl, refl, refl, refl, refl, refl, refl, refl, refl)

-- [23], N1-18 to N1-20
declarations :
    (misc_end (bytes "<?xml?>") 0 ≡ Err (Bad 5))
    × (misc_end (bytes "<?xml:a?>") 0 ≡ Err (Bad 5))
    × (misc_end (bytes "<?xml") 0 ≡ Err Cut)
    × (misc_end (bytes "<?xml version='1.0'?>") 0 ≡ Ok 21)
    × (misc_end (bytes "<?xml version=\"1.0\" standalone='no'?>") 0 ≡ Ok 37)
    × (misc_end (bytes "<?xml ?>") 0 ≡ Err (Bad 6))
    × (misc_end (bytes "<?xml encoding='a'?>") 0 ≡ Err (Bad 6))
    × (misc_end (bytes "<?xml version=1.0?>") 0 ≡ Err (Bad 14))
    × (misc_end (bytes "<?xml version='2.0'?>") 0 ≡ Err (Bad 15))
    × (misc_end (bytes "<?xml version='1'?>") 0 ≡ Err (Bad 16))
    × (misc_end (bytes "<?xml version='1.'?>") 0 ≡ Err (Bad 17))
    × (misc_end (bytes "<?xml version='1.0\"?>") 0 ≡ Err (Bad 18))
    × (misc_end (bytes "<?xml version='1.0'encoding='a'?>") 0 ≡ Err (Bad 19))
    × (misc_end (bytes "<?xml version='1.0' encoding=''?>") 0 ≡ Err (Bad 30))
    × (misc_end (bytes "<?xml version='1.0' encoding='_a'?>") 0 ≡ Err (Bad 30))
    × (misc_end (bytes "<?xml version='1.0' encoding='a+'?>") 0 ≡ Err (Bad 31))
    × (misc_end (bytes "<?xml version='1.0' encoding='a'standalone='no'?>") 0 ≡ Err (Bad 32))
    × (misc_end (bytes "<?xml version='1.0' standalone='no' encoding='a'?>") 0 ≡ Err (Bad 36))
    × (misc_end (bytes "<?xml version='1.0' encoding='a' encoding='a'?>") 0 ≡ Err (Bad 33))
    × (misc_end (bytes "<?xml version='1.0' standalone='yo'?>") 0 ≡ Err (Bad 33))
    × (misc_end (bytes "<?xml version='1.0' standalone='no '?>") 0 ≡ Err (Bad 34))
    × (misc_end (bytes "<?xml version='1.0' a='b'?>") 0 ≡ Err (Bad 20))
    × (misc_end (bytes "<?xml version='1.0' ? >") 0 ≡ Err (Bad 21))
    × (misc_end (bytes "<?xml version='1.0' ?") 0 ≡ Err Cut)
unfolding computing
declarations = (refl, refl, refl, refl, refl, refl, refl, refl, refl, refl, refl, refl, refl, refl, refl, refl, refl, refl, refl, refl, refl, refl, refl, refl)

-- [16] and [17], N1-14 to N1-17
instructions :
    (misc_end (bytes "<?1") 0 ≡ Err (Bad 2))
    × (misc_end (bytes "<?a:b?>") 0 ≡ Err (Bad 3))
    × (misc_end (bytes "<?p??>") 0 ≡ Err (Bad 4))
    × (misc_end (bytes "<?p?x") 0 ≡ Err (Bad 4))
    × (misc_end (bytes "<?p!") 0 ≡ Err (Bad 3))
    × (misc_end (bytes "<?p ??>") 0 ≡ Ok 7)
    × (misc_end (bytes "<? p?>") 0 ≡ Err (Bad 2))
    × (misc_end (bytes "<??>") 0 ≡ Err (Bad 2))
    × (misc_end (bytes "<?p") 0 ≡ Err Cut)
    × (misc_end (bytes "<?p ?") 0 ≡ Err Cut)
    × (misc_end (bytes "<?p <&]]>-- ?? >?>") 0 ≡ Ok 18)
    × (misc_end (bytes "<?xmlx?>") 0 ≡ Ok 8)
    × (misc_end (bytes "<r><?xml") 3 ≡ Err Cut)
    × (misc_end (bytes "<r><?xml?") 3 ≡ Err (Bad 5))
    × (misc_end (bytes "<r><?xml!") 3 ≡ Err (Bad 5))
    × (misc_end (bytes "<r><?xml:a?>") 3 ≡ Err (Bad 5))
    × (misc_end (bytes "<r><?xml-a?>") 3 ≡ Ok 12)
    × (misc_end (bytes "<?XML version='1.0'?>") 0 ≡ Err (Bad 2))
    × (misc_end (bytes " <?xml version='1.0'?>") 1 ≡ Err (Bad 3))
unfolding computing
instructions = (refl, refl, refl, refl, refl, refl, refl, refl, refl, refl, refl, refl, refl, refl, refl, refl, refl, refl, refl)

-- N1-1, N1-5 to N1-9, N1-18
begins :
    (begin_at (bytes "<!----><?p?><r/>") 0 false false ≡ Ok (begin.Start 12))
    × (begin_at (bytes "<r/><!--a--> <?b?> ") 4 false true ≡ (Ok begin.Finished))
    × (begin_at (bytes "<r/><!--a-->x") 4 false true ≡ Err (Bad 12))
    × (begin_at (bytes "<r/><!--a--><s/>") 4 false true ≡ Err (Bad 13))
    × (begin_at (bytes "<r/><?p") 4 false true ≡ Err Cut)
    × (begin_at (bytes "<r/><?xml?>") 4 false true ≡ Err (Bad 6))
    × (begin_at (bytes " <!----> ") 0 false false ≡ Err Cut)
    × (begin_at (bytes "<!---->x<r/>") 0 false false ≡ Err (Bad 7))
    × (begin_at (bytes "<r>a<!") 4 true false ≡ Err Cut)
    × (begin_at (bytes "<r>a<!x") 4 true false ≡ Err (Bad 6))
    × (begin_at (bytes "<r/><s/>") 4 false true ≡ Err (Bad 5))
    × (begin_at (bytes "<r/></r>") 4 false true ≡ Err (Bad 5))
    × (begin_at (bytes "<r/><") 4 false true ≡ Err Cut)
    × (begin_at (bytes "<r/>x") 4 false true ≡ Err (Bad 4))
    × (begin_at (bytes "<r/>  ") 4 false true ≡ (Ok begin.Finished))
    × (begin_at (bytes "</r>") 0 false false ≡ Err (Bad 1))
    × (begin_at (bytes "<r>a<!--x-->b</r>") 4 true false ≡ Ok (begin.Text 12))
    × (begin_at (bytes "<r><!----><?p?></r>") 3 true false ≡ Ok (begin.End 15))
    × (begin_at (bytes "<!--x-->") 0 false false ≡ Err Cut)
    × (begin_at (bytes "<r/><!--x") 4 false true ≡ Err Cut)
    × (begin_at (bytes "<!----><?xml version='1.0'?>") 0 false false ≡ Err (Bad 9))
    × (begin_at (bytes "<?xml version='1.0'?><!--x--> <?p?><r>") 0 false false ≡ Ok (begin.Start 35))
unfolding computing
begins = (refl, refl, refl, refl, refl, refl, refl, refl, refl, refl, refl, refl, refl, refl, refl, refl, refl, refl, refl, refl, refl, refl)

-- N1-2, N1-21, N1-22
texts :
    (text_end (bytes "<r>a]]") 3 ≡ Err Cut)
    × (text_end (bytes "<r>a]]>") 3 ≡ Err (Bad 4))
    × (text_end (bytes "<r>]]]>") 3 ≡ Err (Bad 4))
    × (text_end (bytes "<r>&quot;]]></r>") 3 ≡ Err (Bad 9))
    × (text_end (bytes "<r>] ]>]&amp;]></r>") 3 ≡ Ok 15)
    × (text_end (bytes "<r>]]&gt;</r>") 3 ≡ Ok 9)
    × (text_end (bytes "<r>]]<!---->></r>") 3 ≡ Ok 5)
    × (text_end (bytes "<r>]]></r>") 3 ≡ Err (Bad 3))
    × (text_end (bytes "<r>abc") 3 ≡ Err Cut)
    × (text_end (bytes "<r>&ampx") 3 ≡ Err (Bad 7))
unfolding computing
texts = (refl, refl, refl, refl, refl, refl, refl, refl, refl, refl)

-- N1-11, N1-13, N1-14, N1-22: bytes and lengths; N1-23: places inside a misc and between the ] of ]]>
bytes_and_places :
    (begin_at (0xEF ∷ 0xBB ∷ 0xBF ∷ bytes "<r/>") 0 false false ≡ Err (Bad 0))
    × (misc_end (bytes "<!--" ++ (0x0B ∷ [])) 0 ≡ Err (Bad 4))
    × (misc_end (bytes "<!--" ++ (0xFF ∷ bytes "-->")) 0 ≡ Err (Bad 4))
    × (misc_end (bytes "<!--<&]]>&x;?>-->") 0 ≡ Ok 17)
    × (misc_end (bytes "<?" ++ replicate 64 0x74 ++ bytes "?>") 0 ≡ Ok 68)
    × (misc_end (bytes "<?" ++ replicate 65 0x74) 0 ≡ Err (Long 66))
    × (misc_end (bytes "<?" ++ replicate 64 0x74 ++ bytes ":") 0 ≡ Err (Bad 66))
    × (value_end (bytes "<r a=']]>'/>") 6 0x27 ≡ Ok 9)
    × (begin_at (bytes "<r><!--a-->x</r>") 4 true false ≡ Ok (begin.Text 4))
    × (text_end (bytes "<r>]]></r>") 4 ≡ Ok 6)
unfolding computing
bytes_and_places = (refl, refl, refl, refl, refl, refl, refl, refl, refl, refl)

-- [25], [26], [32], [81], N1-20: a declaration with every field and each space, every digit and none beside them, an EncName of every kind of byte, yes
declaration_whole :
    (misc_end (bytes "<?xml" ++ (0x09 ∷ bytes "version") ++ (0x0A ∷ bytes "=") ++ (0x0D ∷ bytes "\"1.15\" encoding = 'x-1._' standalone=\"yes\" ?>")) 0 ≡ Ok 61)
    × (misc_end (bytes "<?xml version='1.19' encoding='AZaz09'?>") 0 ≡ Ok 40)
    × (misc_end (bytes "<?xml  version='1.0123456789'?>") 0 ≡ Ok 31)
    × (misc_end (bytes "<?xml version='1.0/'?>") 0 ≡ Err (Bad 18))
    × (misc_end (bytes "<?xml version='1.0:'?>") 0 ≡ Err (Bad 18))
    × (misc_end (bytes "<?xml version='1.0' standalone='yep'?>") 0 ≡ Err (Bad 34))
unfolding computing
declaration_whole = (refl, refl, refl, refl, refl, refl)

-- [15], N1-12: hyphens that are not neighbours; N1-15: the scene's end behind the ? of ?>; N1-16: xml in mixed case, and as a beginning
misc_more :
    (misc_end (bytes "<!-- - - -->") 0 ≡ Ok 12)
    × (misc_end (bytes "<!--->-->") 0 ≡ Ok 9)
    × (misc_end (bytes "<!--a-" ++ (0x00 ∷ [])) 0 ≡ Err (Bad 6))
    × (misc_end (bytes "<?p?") 0 ≡ Err Cut)
    × (misc_end (bytes "<r><?XmL a?>") 3 ≡ Err (Bad 5))
    × (misc_end (bytes "<r><?xMl?>") 3 ≡ Err (Bad 5))
    × (misc_end (bytes "<r><?xm?>") 3 ≡ Ok 9)
    × (misc_end (bytes "<?XMLa?>") 0 ≡ Ok 8)
unfolding computing
misc_more = (refl, refl, refl, refl, refl, refl, refl, refl)

-- "Text and values hold .., without <"; "& starts only &lt; &gt; &amp; &quot; or &apos;": each with its ; . "An end tag is </, name, optional space, >"
values_and_ends :
    (value_end (bytes "<r a='<'/>") 6 0x27 ≡ Err (Bad 6))
    × (value_end (bytes "<r a=\"b<\"/>") 6 0x22 ≡ Err (Bad 7))
    × (value_end (bytes "<r a='" ++ (0x0B ∷ bytes "'/>")) 6 0x27 ≡ Err (Bad 6))
    × (value_end (bytes "<r a='&ltx'/>") 6 0x27 ≡ Err (Bad 9))
    × (text_end (bytes "<r>&ltx") 3 ≡ Err (Bad 6))
    × (text_end (bytes "<r>&gtx") 3 ≡ Err (Bad 6))
    × (text_end (bytes "<r>&quotx") 3 ≡ Err (Bad 8))
    × (text_end (bytes "<r>&aposx") 3 ≡ Err (Bad 8))
    × (end_tag_at (bytes "<r></r!") 5 ≡ Err (Bad 6))
    × (end_tag_at (bytes "<r></r/>") 5 ≡ Err (Bad 6))
    × (end_tag_at (bytes "<r></r a>") 5 ≡ Err (Bad 7))
    × (end_tag_at (bytes "<r></r") 5 ≡ Err Cut)
    × (end_tag_at (bytes "<r></r ") 5 ≡ Err Cut)
    × (end_tag_at (bytes "<r></r  >") 5 ≡ Ok (record { name = record { at = 5; part = 5; end = 6 }; next = 9 }))
unfolding computing
values_and_ends = (refl, refl, refl, refl, refl, refl, refl, refl, refl, refl, refl, refl, refl, refl)
