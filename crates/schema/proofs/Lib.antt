mod ColumnReads
