-- The schemas of the transcripts. Made by `tests/examples` from transcripts/: no hand writes here.
use Rattle.std.specs.Prelude.{ℕ, List, codes, map, cond, ◌==◌, ◌++◌, ◌∷◌, []}

-- quotes are written `'`
abbrev pub quoted : List ℕ → List ℕ
quoted = map (λ c. cond (c == 39) 34 c)

abbrev pub caps : List ℕ
caps = codes "{\"name\":\"net\",\"version\":\"1.0.0\",\"tables\":{\n\"Port\":{\"columns\":{\n \"Zed\":{\"type\":\"integer\"},\n \"name\":{\"type\":\"string\"}}},\n\"bridge\":{\"columns\":{\n \"a\":{\"type\":\"integer\"}}}}}\n"

abbrev pub choices : List ℕ
choices = codes "{\"name\":\"d\",\"version\":\"1.0.0\",\"tables\":{\n\"C\":{\"columns\":{\n \"n\":{\"type\":\"integer\"},\n \"s\":{\"type\":{\"key\":\"integer\",\"min\":0,\"max\":\"unlimited\"}}}},\n\"E\":{\"columns\":{\n \"t\":{\"type\":{\"key\":{\"type\":\"string\",\"enum\":[\"set\",[\"x\",\"y\"]]}}}}}}}\n"

abbrev pub cnt : List ℕ
cnt = codes "{\"name\":\"cnt\",\"version\":\"1.0.0\",\"tables\":{\"C\":{\"columns\":{\n \"n\":{\"type\":\"integer\"},\n \"s\":{\"type\":{\"key\":\"integer\",\"min\":0,\"max\":\"unlimited\"}}}}}}\n"

abbrev pub empty : List ℕ
empty = codes "{\"name\":\"empty\",\"version\":\"1.0.0\",\"tables\":{}}\n"

abbrev pub fault_257_tables : List ℕ
fault_257_tables = codes "{\"name\":\"net\",\"version\":\"1.0.0\",\"tables\":{\n\"T0\":{\"columns\":{}},\n\"T1\":{\"columns\":{}},\n\"T2\":{\"columns\":{}},\n\"T3\":{\"columns\":{}},\n\"T4\":{\"columns\":{}},\n\"T5\":{\"columns\":{}},\n\"T6\":{\"columns\":{}},\n\"T7\":{\"columns\":{}},\n\"T8\":{\"columns\":{}},\n\"T9\":{\"columns\":{}},\n\"T10\":{\"columns\":{}},\n\"T11\":{\"columns\":{}},\n\"T12\":{\"columns\":{}},\n\"T13\":{\"columns\":{}},\n\"T14\":{\"columns\":{}},\n\"T15\":{\"columns\":{}},\n\"T16\":{\"columns\":{}},\n\"T17\":{\"columns\":{}},\n\"T18\":{\"columns\":{}},\n\"T19\":{\"columns\":{}},\n\"T20\":{\"columns\":{}},\n\"T21\":{\"columns\":{}},\n\"T22\":{\"columns\":{}},\n\"T23\":{\"columns\":{}},\n\"T24\":{\"columns\":{}},\n\"T25\":{\"columns\":{}},\n\"T26\":{\"columns\":{}},\n\"T27\":{\"columns\":{}},\n\"T28\":{\"columns\":{}},\n\"T29\":{\"columns\":{}},\n\"T30\":{\"columns\":{}},\n\"T31\":{\"columns\":{}},\n\"T32\":{\"columns\":{}},\n\"T33\":{\"columns\":{}},\n\"T34\":{\"columns\":{}},\n\"T35\":{\"columns\":{}},\n\"T36\":{\"columns\":{}},\n\"T37\":{\"columns\":{}},\n\"T38\":{\"columns\":{}},\n\"T39\":{\"columns\":{}},\n\"T40\":{\"columns\":{}},\n\"T41\":{\"columns\":{}},\n\"T42\":{\"columns\":{}},\n\"T43\":{\"columns\":{}},\n\"T44\":{\"columns\":{}},\n\"T45\":{\"columns\":{}},\n\"T46\":{\"columns\":{}},\n\"T47\":{\"columns\":{}},\n\"T48\":{\"columns\":{}},\n\"T49\":{\"columns\":{}},\n\"T50\":{\"columns\":{}},\n\"T51\":{\"columns\":{}},\n\"T52\":{\"columns\":{}},\n\"T53\":{\"columns\":{}},\n\"T54\":{\"columns\":{}},\n\"T55\":{\"columns\":{}},\n\"T56\":{\"columns\":{}},\n\"T57\":{\"columns\":{}},\n\"T58\":{\"columns\":{}},\n\"T59\":{\"columns\":{}},\n\"T60\":{\"columns\":{}},\n\"T61\":{\"columns\":{}},\n\"T62\":{\"columns\":{}},\n\"T63\":{\"columns\":{}},\n\"T64\":{\"columns\":{}},\n\"T65\":{\"columns\":{}},\n\"T66\":{\"columns\":{}},\n\"T67\":{\"columns\":{}},\n\"T68\":{\"columns\":{}},\n\"T69\":{\"columns\":{}},\n\"T70\":{\"columns\":{}},\n\"T71\":{\"columns\":{}},\n\"T72\":{\"columns\":{}},\n\"T73\":{\"columns\":{}},\n\"T74\":{\"columns\":{}},\n\"T75\":{\"columns\":{}},\n\"T76\":{\"columns\":{}},\n\"T77\":{\"columns\":{}},\n\"T78\":{\"columns\":{}},\n\"T79\":{\"columns\":{}},\n\"T80\":{\"columns\":{}},\n\"T81\":{\"columns\":{}},\n\"T82\":{\"columns\":{}},\n\"T83\":{\"columns\":{}},\n\"T84\":{\"columns\":{}},\n\"T85\":{\"columns\":{}},\n\"T86\":{\"columns\":{}},\n\"T87\":{\"columns\":{}},\n\"T88\":{\"columns\":{}},\n\"T89\":{\"columns\":{}},\n\"T90\":{\"columns\":{}},\n\"T91\":{\"columns\":{}},\n\"T92\":{\"columns\":{}},\n\"T93\":{\"columns\":{}},\n\"T94\":{\"columns\":{}},\n\"T95\":{\"columns\":{}},\n\"T96\":{\"columns\":{}},\n\"T97\":{\"columns\":{}},\n\"T98\":{\"columns\":{}},\n\"T99\":{\"columns\":{}},\n\"T100\":{\"columns\":{}},\n\"T101\":{\"columns\":{}},\n\"T102\":{\"columns\":{}},\n\"T103\":{\"columns\":{}},\n\"T104\":{\"columns\":{}},\n\"T105\":{\"columns\":{}},\n\"T106\":{\"columns\":{}},\n\"T107\":{\"columns\":{}},\n\"T108\":{\"columns\":{}},\n\"T109\":{\"columns\":{}},\n\"T110\":{\"columns\":{}},\n\"T111\":{\"columns\":{}},\n\"T112\":{\"columns\":{}},\n\"T113\":{\"columns\":{}},\n\"T114\":{\"columns\":{}},\n\"T115\":{\"columns\":{}},\n\"T116\":{\"columns\":{}},\n\"T117\":{\"columns\":{}},\n\"T118\":{\"columns\":{}},\n\"T119\":{\"columns\":{}},\n\"T120\":{\"columns\":{}},\n\"T121\":{\"columns\":{}},\n\"T122\":{\"columns\":{}},\n\"T123\":{\"columns\":{}},\n\"T124\":{\"columns\":{}},\n\"T125\":{\"columns\":{}},\n\"T126\":{\"columns\":{}},\n\"T127\":{\"columns\":{}},\n\"T128\":{\"columns\":{}},\n\"T129\":{\"columns\":{}},\n\"T130\":{\"columns\":{}},\n\"T131\":{\"columns\":{}},\n\"T132\":{\"columns\":{}},\n\"T133\":{\"columns\":{}},\n\"T134\":{\"columns\":{}},\n\"T135\":{\"columns\":{}},\n\"T136\":{\"columns\":{}},\n\"T137\":{\"columns\":{}},\n\"T138\":{\"columns\":{}},\n\"T139\":{\"columns\":{}},\n\"T140\":{\"columns\":{}},\n\"T141\":{\"columns\":{}},\n\"T142\":{\"columns\":{}},\n\"T143\":{\"columns\":{}},\n\"T144\":{\"columns\":{}},\n\"T145\":{\"columns\":{}},\n\"T146\":{\"columns\":{}},\n\"T147\":{\"columns\":{}},\n\"T148\":{\"columns\":{}},\n\"T149\":{\"columns\":{}},\n\"T150\":{\"columns\":{}},\n\"T151\":{\"columns\":{}},\n\"T152\":{\"columns\":{}},\n\"T153\":{\"columns\":{}},\n\"T154\":{\"columns\":{}},\n\"T155\":{\"columns\":{}},\n\"T156\":{\"columns\":{}},\n\"T157\":{\"columns\":{}},\n\"T158\":{\"columns\":{}},\n\"T159\":{\"columns\":{}},\n\"T160\":{\"columns\":{}},\n\"T161\":{\"columns\":{}},\n\"T162\":{\"columns\":{}},\n\"T163\":{\"columns\":{}},\n\"T164\":{\"columns\":{}},\n\"T165\":{\"columns\":{}},\n\"T166\":{\"columns\":{}},\n\"T167\":{\"columns\":{}},\n\"T168\":{\"columns\":{}},\n\"T169\":{\"columns\":{}},\n\"T170\":{\"columns\":{}},\n\"T171\":{\"columns\":{}},\n\"T172\":{\"columns\":{}},\n\"T173\":{\"columns\":{}},\n\"T174\":{\"columns\":{}},\n\"T175\":{\"columns\":{}},\n\"T176\":{\"columns\":{}},\n\"T177\":{\"columns\":{}},\n\"T178\":{\"columns\":{}},\n\"T179\":{\"columns\":{}},\n\"T180\":{\"columns\":{}},\n\"T181\":{\"columns\":{}},\n\"T182\":{\"columns\":{}},\n\"T183\":{\"columns\":{}},\n\"T184\":{\"columns\":{}},\n\"T185\":{\"columns\":{}},\n\"T186\":{\"columns\":{}},\n\"T187\":{\"columns\":{}},\n\"T188\":{\"columns\":{}},\n\"T189\":{\"columns\":{}},\n\"T190\":{\"columns\":{}},\n\"T191\":{\"columns\":{}},\n\"T192\":{\"columns\":{}},\n\"T193\":{\"columns\":{}},\n\"T194\":{\"columns\":{}},\n\"T195\":{\"columns\":{}},\n\"T196\":{\"columns\":{}},\n\"T197\":{\"columns\":{}},\n\"T198\":{\"columns\":{}},\n\"T199\":{\"columns\":{}},\n\"T200\":{\"columns\":{}},\n\"T201\":{\"columns\":{}},\n\"T202\":{\"columns\":{}},\n\"T203\":{\"columns\":{}},\n\"T204\":{\"columns\":{}},\n\"T205\":{\"columns\":{}},\n\"T206\":{\"columns\":{}},\n\"T207\":{\"columns\":{}},\n\"T208\":{\"columns\":{}},\n\"T209\":{\"columns\":{}},\n\"T210\":{\"columns\":{}},\n\"T211\":{\"columns\":{}},\n\"T212\":{\"columns\":{}},\n\"T213\":{\"columns\":{}},\n\"T214\":{\"columns\":{}},\n\"T215\":{\"columns\":{}},\n\"T216\":{\"columns\":{}},\n\"T217\":{\"columns\":{}},\n\"T218\":{\"columns\":{}},\n\"T219\":{\"columns\":{}},\n\"T220\":{\"columns\":{}},\n\"T221\":{\"columns\":{}},\n\"T222\":{\"columns\":{}},\n\"T223\":{\"columns\":{}},\n\"T224\":{\"columns\":{}},\n\"T225\":{\"columns\":{}},\n\"T226\":{\"columns\":{}},\n\"T227\":{\"columns\":{}},\n\"T228\":{\"columns\":{}},\n\"T229\":{\"columns\":{}},\n\"T230\":{\"columns\":{}},\n\"T231\":{\"columns\":{}},\n\"T232\":{\"columns\":{}},\n\"T233\":{\"columns\":{}},\n\"T234\":{\"columns\":{}},\n\"T235\":{\"columns\":{}},\n\"T236\":{\"columns\":{}},\n\"T237\":{\"columns\":{}},\n\"T238\":{\"columns\":{}},\n\"T239\":{\"columns\":{}},\n\"T240\":{\"columns\":{}},\n\"T241\":{\"columns\":{}},\n\"T242\":{\"columns\":{}},\n\"T243\":{\"columns\":{}},\n\"T244\":{\"columns\":{}},\n\"T245\":{\"columns\":{}},\n\"T246\":{\"columns\":{}},\n\"T247\":{\"columns\":{}},\n\"T248\":{\"columns\":{}},\n\"T249\":{\"columns\":{}},\n\"T250\":{\"columns\":{}},\n\"T251\":{\"columns\":{}},\n\"T252\":{\"columns\":{}},\n\"T253\":{\"columns\":{}},\n\"T254\":{\"columns\":{}},\n\"T255\":{\"columns\":{}},\n\"T256\":{\"columns\":{}}}}\n"

abbrev pub fault_bounds_on_strings : List ℕ
fault_bounds_on_strings = codes "{\"name\":\"net\",\"version\":\"1.0.0\",\"tables\":{\"T\":{\"columns\":{\"c\":{\"type\":{\"key\":{\"type\":\"string\",\"minInteger\":1}}}}}}}\n"

abbrev pub fault_column_with_an_underscore : List ℕ
fault_column_with_an_underscore = codes "{\"name\":\"net\",\"version\":\"1.0.0\",\"tables\":{\"T\":{\"columns\":{\"_x\":{\"type\":\"integer\"}}}}}\n"

abbrev pub fault_empty_enum : List ℕ
fault_empty_enum = codes "{\"name\":\"net\",\"version\":\"1.0.0\",\"tables\":{\"T\":{\"columns\":{\"c\":{\"type\":{\"key\":{\"type\":\"string\",\"enum\":[\"set\",[]]}}}}}}}\n"

abbrev pub fault_empty_index : List ℕ
fault_empty_index = codes "{\"name\":\"net\",\"version\":\"1.0.0\",\"tables\":{\"T\":{\"columns\":{\"c\":{\"type\":\"integer\"}},\"indexes\":[[]]}}}\n"

abbrev pub fault_enum_fraction : List ℕ
fault_enum_fraction = codes "{\"name\":\"net\",\"version\":\"1.0.0\",\"tables\":{\"T\":{\"columns\":{\"c\":{\"type\":{\"key\":{\"type\":\"integer\",\"enum\":1.5}}}}}}}\n"

abbrev pub fault_enum_null : List ℕ
fault_enum_null = codes "{\"name\":\"net\",\"version\":\"1.0.0\",\"tables\":{\"T\":{\"columns\":{\"c\":{\"type\":{\"key\":{\"type\":\"integer\",\"enum\":null}}}}}}}\n"

abbrev pub fault_enum_object : List ℕ
fault_enum_object = codes "{\"name\":\"net\",\"version\":\"1.0.0\",\"tables\":{\"T\":{\"columns\":{\"c\":{\"type\":{\"key\":{\"type\":\"integer\",\"enum\":{}}}}}}}}\n"

abbrev pub fault_enum_of_another_kind : List ℕ
fault_enum_of_another_kind = codes "{\"name\":\"net\",\"version\":\"1.0.0\",\"tables\":{\"T\":{\"columns\":{\"c\":{\"type\":{\"key\":{\"type\":\"string\",\"enum\":5}}}}}}}\n"

abbrev pub fault_ephemeral_index : List ℕ
fault_ephemeral_index = codes "{\"name\":\"net\",\"version\":\"1.0.0\",\"tables\":{\"T\":{\"columns\":{\"c\":{\"type\":\"integer\",\"ephemeral\":true}},\"indexes\":[[\"c\"]]}}}\n"

abbrev pub fault_index_of_a_number : List ℕ
fault_index_of_a_number = codes "{\"name\":\"net\",\"version\":\"1.0.0\",\"tables\":{\"T\":{\"columns\":{\"c\":{\"type\":\"integer\"}},\"indexes\":[[5,\"zz\"]]}}}\n"

abbrev pub fault_index_of_an_unknown_column : List ℕ
fault_index_of_an_unknown_column = codes "{\"name\":\"net\",\"version\":\"1.0.0\",\"tables\":{\"T\":{\"columns\":{\"c\":{\"type\":\"integer\"}},\"indexes\":[[\"zz\",5]]}}}\n"

abbrev pub fault_name_of_a_digit : List ℕ
fault_name_of_a_digit = codes "{\"name\":\"1\",\"version\":\"1.0.0\",\"tables\":{}}\n"

abbrev pub fault_no_version : List ℕ
fault_no_version = codes "{\"name\":\"net\"}\n"

abbrev pub fault_reference_of_strings : List ℕ
fault_reference_of_strings = codes "{\"name\":\"net\",\"version\":\"1.0.0\",\"tables\":{\"T\":{\"columns\":{\"c\":{\"type\":{\"key\":{\"type\":\"string\",\"refTable\":\"U\"}}}}}}}\n"

abbrev pub fault_reference_to_no_table : List ℕ
fault_reference_to_no_table = codes "{\"name\":\"net\",\"version\":\"1.0.0\",\"tables\":{\"T\":{\"columns\":{\"c\":{\"type\":{\"key\":{\"type\":\"uuid\",\"refTable\":\"U\"}}}}}}}\n"

abbrev pub fault_type_int : List ℕ
fault_type_int = codes "{\"name\":\"net\",\"version\":\"1.0.0\",\"tables\":{\"T\":{\"columns\":{\"c\":{\"type\":\"int\"}}}}}\n"

abbrev pub fault_version_of_two_numbers : List ℕ
fault_version_of_two_numbers = codes "{\"name\":\"net\",\"version\":\"1.0\",\"tables\":{}}\n"

abbrev pub immutable : List ℕ
immutable = codes "{\"name\":\"immutable\",\"version\":\"1.0.0\",\"tables\":{\n\"Port\":{\"isRoot\":true,\"columns\":{\n \"name\":{\"type\":\"string\"}}},\n\"Mirror\":{\"isRoot\":true,\"columns\":{\n \"output\":{\"type\":{\"key\":{\"type\":\"uuid\",\"refTable\":\"Port\",\"refType\":\"weak\"},\"min\":0},\"mutable\":false}}}}}\n"

abbrev pub kinds : List ℕ
kinds = codes "{\"name\":\"kinds\",\"version\":\"1.0.0\",\"tables\":{\"T\":{\"columns\":{\n \"bs\":{\"type\":{\"key\":\"boolean\",\"min\":0,\"max\":\"unlimited\"}},\n \"few\":{\"type\":{\"key\":{\"type\":\"integer\",\"maxInteger\":5},\"min\":0,\"max\":2}},\n \"i\":{\"type\":\"integer\"},\n \"is\":{\"type\":{\"key\":\"integer\",\"min\":0,\"max\":\"unlimited\"}},\n \"mi\":{\"type\":{\"key\":\"string\",\"value\":\"integer\",\"min\":0,\"max\":\"unlimited\"}},\n \"mu\":{\"type\":{\"key\":\"string\",\"value\":\"uuid\",\"min\":0,\"max\":\"unlimited\"}},\n \"s\":{\"type\":\"string\"},\n \"short\":{\"type\":{\"key\":{\"type\":\"string\",\"maxLength\":2}}},\n \"ss\":{\"type\":{\"key\":\"string\",\"min\":0,\"max\":\"unlimited\"}},\n \"tag\":{\"type\":{\"key\":{\"type\":\"integer\",\"minInteger\":0,\"maxInteger\":4095}}},\n \"us\":{\"type\":{\"key\":\"uuid\",\"min\":0,\"max\":\"unlimited\"}}}}}}\n"

abbrev pub lengths : List ℕ
lengths = codes "{\"name\":\"lengths\",\"version\":\"1.0.0\",\"tables\":{\"T\":{\"columns\":{\"c\":{\"type\":{\"key\":{\"type\":\"string\",\"minLength\":-1}}}}}}}\n"

abbrev pub lft : List ℕ
lft = codes "{\"name\":\"lft\",\"version\":\"1.0.0\",\"tables\":{\n\"R\":{\"isRoot\":true,\"columns\":{\"m\":{\"type\":{\"key\":{\"type\":\"uuid\",\"refTable\":\"W\",\"refType\":\"weak\"},\n \"value\":{\"type\":\"uuid\",\"refTable\":\"S\"},\"min\":0,\"max\":\"unlimited\"}}}},\n\"W\":{\"isRoot\":true,\"columns\":{\"k\":{\"type\":\"integer\"}}},\n\"S\":{\"columns\":{\"k\":{\"type\":\"integer\"}}}}}\n"

abbrev pub limits : List ℕ
limits = codes "{\"name\":\"g\",\"version\":\"1.0.0\",\"tables\":{\n\"A\":{\"isRoot\":true,\"columns\":{\n \"p\":{\"type\":{\"key\":{\"type\":\"uuid\",\"refTable\":\"P\"},\"min\":0,\"max\":\"unlimited\"}},\n \"q\":{\"type\":{\"key\":{\"type\":\"uuid\",\"refTable\":\"P\",\"refType\":\"weak\"},\"min\":0,\"max\":\"unlimited\"}}}},\n\"P\":{\"maxRows\":1,\"indexes\":[[\"n\"]],\"columns\":{\n \"n\":{\"type\":\"integer\"}}}}}\n"

abbrev pub lnk : List ℕ
lnk = codes "{\"name\":\"lnk\",\"version\":\"1.0.0\",\"tables\":{\n\"R\":{\"isRoot\":true,\"columns\":{\"first\":{\"type\":{\"key\":{\"type\":\"uuid\",\"refTable\":\"N\"},\"min\":0}}}},\n\"N\":{\"columns\":{\"next\":{\"type\":{\"key\":{\"type\":\"uuid\",\"refTable\":\"N\"},\"min\":0}}}}}}\n"

abbrev pub net : List ℕ
net = codes "{\"name\":\"net\",\"version\":\"1.0.0\",\"tables\":{\n\"Bridge\":{\"isRoot\":true,\"indexes\":[[\"name\"]],\"columns\":{\n \"name\":{\"type\":\"string\"},\n \"ports\":{\"type\":{\"key\":{\"type\":\"uuid\",\"refTable\":\"Port\"},\"min\":0,\"max\":\"unlimited\"}}}},\n\"Port\":{\"columns\":{\n \"name\":{\"type\":\"string\"},\n \"tag\":{\"type\":{\"key\":{\"type\":\"integer\",\"minInteger\":0,\"maxInteger\":4095},\"min\":0}},\n \"opts\":{\"type\":{\"key\":\"string\",\"value\":\"string\",\"min\":0,\"max\":\"unlimited\"}},\n \"peer\":{\"type\":{\"key\":{\"type\":\"uuid\",\"refTable\":\"Port\",\"refType\":\"weak\"},\"min\":0}}}}}}\n"

abbrev pub northbound : List ℕ
northbound = codes "{\"name\":\"northbound\",\"version\":\"1.0.0\",\"tables\":{\n\"Address_Set\":{\"isRoot\":true,\"indexes\":[[\"name\"]],\"columns\":{\n \"name\":{\"type\":\"string\"}}},\n\"Logical_Router\":{\"isRoot\":true,\"columns\":{\n \"name\":{\"type\":\"string\"},\n \"nat\":{\"type\":{\"key\":{\"type\":\"uuid\",\"refTable\":\"NAT\"},\"min\":0,\"max\":\"unlimited\"}}}},\n\"NAT\":{\"columns\":{\n \"allowed_ext_ips\":{\"type\":{\"key\":{\"type\":\"uuid\",\"refTable\":\"Address_Set\"},\"min\":0}}}}}}\n"

abbrev pub one_pair : List ℕ
one_pair = codes "{\"name\":\"p\",\"version\":\"1.0.0\",\"tables\":{\n\"P\":{\"columns\":{\n \"m\":{\"type\":{\"key\":\"string\",\"value\":\"integer\"}}}}}}\n"

abbrev pub operations : List ℕ
operations = codes "{\"name\":\"r\",\"version\":\"1.0.0\",\"tables\":{\n\"A\":{\"columns\":{\n \"b\":{\"type\":\"boolean\"},\n \"i\":{\"type\":\"integer\"},\n \"k\":{\"type\":\"integer\",\"mutable\":false},\n \"m\":{\"type\":{\"key\":\"string\",\"value\":\"integer\",\"min\":0,\"max\":\"unlimited\"}},\n \"o\":{\"type\":{\"key\":\"integer\",\"min\":0}},\n \"s\":{\"type\":{\"key\":{\"type\":\"integer\",\"maxInteger\":9},\"min\":0,\"max\":3}},\n \"t\":{\"type\":{\"key\":{\"type\":\"string\",\"enum\":[\"set\",[\"\",\"x\",\"y\"]]}}},\n \"u\":{\"type\":\"uuid\"}}},\n\"B\":{\"columns\":{\n \"n\":{\"type\":\"integer\"},\n \"z\":{\"type\":{\"key\":\"string\",\"min\":1,\"max\":2}}}}}}\n"

abbrev pub references : List ℕ
references = codes "{\"name\":\"d\",\"version\":\"1.0.0\",\"tables\":{\n\"N\":{\"columns\":{\n \"name\":{\"type\":\"string\"},\n \"pairs\":{\"type\":{\"key\":{\"type\":\"uuid\",\"refTable\":\"N\",\"refType\":\"weak\"},\"value\":\"integer\",\"min\":0,\"max\":\"unlimited\"}},\n \"strong\":{\"type\":{\"key\":{\"type\":\"uuid\",\"refTable\":\"N\"},\"min\":0,\"max\":\"unlimited\"}},\n \"weak\":{\"type\":{\"key\":{\"type\":\"uuid\",\"refTable\":\"N\",\"refType\":\"weak\"},\"min\":0,\"max\":\"unlimited\"}}}},\n\"R\":{\"isRoot\":true,\"maxRows\":2,\"indexes\":[[\"name\"]],\"columns\":{\n \"name\":{\"type\":\"string\"},\n \"pairs\":{\"type\":{\"key\":{\"type\":\"uuid\",\"refTable\":\"N\",\"refType\":\"weak\"},\"value\":\"integer\",\"min\":0,\"max\":\"unlimited\"}},\n \"strong\":{\"type\":{\"key\":{\"type\":\"uuid\",\"refTable\":\"N\"},\"min\":0,\"max\":\"unlimited\"}},\n \"weak\":{\"type\":{\"key\":{\"type\":\"uuid\",\"refTable\":\"N\",\"refType\":\"weak\"},\"min\":0,\"max\":\"unlimited\"}}}},\n\"W\":{\"isRoot\":true,\"columns\":{\n \"name\":{\"type\":\"string\"},\n \"pairs\":{\"type\":{\"key\":{\"type\":\"uuid\",\"refTable\":\"N\",\"refType\":\"weak\"},\"value\":\"integer\",\"min\":0,\"max\":\"unlimited\"}},\n \"strong\":{\"type\":{\"key\":{\"type\":\"uuid\",\"refTable\":\"N\"},\"min\":0,\"max\":\"unlimited\"}},\n \"weak\":{\"type\":{\"key\":{\"type\":\"uuid\",\"refTable\":\"N\",\"refType\":\"weak\"},\"min\":1,\"max\":\"unlimited\"}}}}}}\n"

abbrev pub ring : List ℕ
ring = codes "{\"name\":\"ring\",\"version\":\"1.0.0\",\"tables\":{\n\"R\":{\"isRoot\":true,\"columns\":{}},\n\"N\":{\"columns\":{\n \"next\":{\"type\":{\"key\":{\"type\":\"uuid\",\"refTable\":\"N\"}}},\n \"back\":{\"type\":{\"key\":{\"type\":\"uuid\",\"refTable\":\"N\"}}}}}}}\n"

abbrev pub settlement : List ℕ
settlement = codes "{\"name\":\"s\",\"version\":\"1.0.0\",\"tables\":{\n\"H\":{\"isRoot\":true,\"columns\":{\n \"need\":{\"type\":{\"key\":{\"type\":\"uuid\",\"refTable\":\"W\",\"refType\":\"weak\"},\"min\":0,\"max\":\"unlimited\"}},\n \"some\":{\"type\":{\"key\":{\"type\":\"uuid\",\"refTable\":\"N\"},\"min\":0,\"max\":\"unlimited\"}},\n \"wk\":{\"type\":{\"key\":{\"type\":\"uuid\",\"refTable\":\"W\",\"refType\":\"weak\"},\"value\":{\"type\":\"uuid\",\"refTable\":\"N\"},\"min\":0,\"max\":\"unlimited\"}},\n \"wv\":{\"type\":{\"key\":{\"type\":\"uuid\",\"refTable\":\"N\"},\"value\":{\"type\":\"uuid\",\"refTable\":\"W\",\"refType\":\"weak\"},\"min\":0,\"max\":\"unlimited\"}},\n \"x\":{\"type\":\"integer\"}}},\n\"N\":{\"columns\":{\n \"next\":{\"type\":{\"key\":{\"type\":\"uuid\",\"refTable\":\"N\"},\"min\":0}},\n \"v\":{\"type\":\"integer\"}}},\n\"Q\":{\"isRoot\":true,\"columns\":{\n \"w\":{\"type\":{\"key\":{\"type\":\"uuid\",\"refTable\":\"W\",\"refType\":\"weak\"}}}}},\n\"R\":{\"isRoot\":true,\"maxRows\":1,\"indexes\":[[\"a\"]],\"columns\":{\n \"a\":{\"type\":\"integer\"},\n \"w\":{\"type\":{\"key\":{\"type\":\"uuid\",\"refTable\":\"W\",\"refType\":\"weak\"},\"min\":0}}}},\n\"I\":{\"isRoot\":true,\"indexes\":[[\"m\",\"s\"],[\"w\"]],\"columns\":{\n \"m\":{\"type\":{\"key\":\"string\",\"value\":\"integer\",\"min\":0,\"max\":\"unlimited\"}},\n \"s\":{\"type\":{\"key\":\"integer\",\"min\":0,\"max\":\"unlimited\"}},\n \"w\":{\"type\":{\"key\":{\"type\":\"uuid\",\"refTable\":\"W\",\"refType\":\"weak\"},\"min\":0,\"max\":\"unlimited\"}}}},\n\"W\":{\"isRoot\":true,\"columns\":{\n \"k\":{\"type\":\"integer\"}}},\n\"X\":{\"isRoot\":true,\"columns\":{\n \"n\":{\"type\":{\"key\":{\"type\":\"uuid\",\"refTable\":\"X\"},\"min\":0}}}}}}\n"

abbrev pub vsw : List ℕ
vsw = codes "{\"name\":\"Open_vSwitch\",\"version\":\"8.3.0\",\"tables\":{\n\"Open_vSwitch\":{\"isRoot\":true,\"maxRows\":1,\"columns\":{\n \"bridges\":{\"type\":{\"key\":{\"type\":\"uuid\",\"refTable\":\"Bridge\"},\"min\":0,\"max\":\"unlimited\"}},\n \"next_cfg\":{\"type\":\"integer\"}}},\n\"Bridge\":{\"indexes\":[[\"name\"]],\"columns\":{\n \"name\":{\"type\":\"string\",\"mutable\":false},\n \"external_ids\":{\"type\":{\"key\":\"string\",\"value\":\"string\",\"min\":0,\"max\":\"unlimited\"}}}}}}\n"
