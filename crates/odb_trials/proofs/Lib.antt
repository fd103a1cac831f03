mod MarkLists
